-- The promises of a table that was read are those of the definitions.
use Rattle.std.specs.Prelude.{List}
use Rattle.wh_rows.specs.Courses.{Happening, Comes, Gives, Completes, Fails, Cancels, ContinuesAsNew, Closes}
use Rattle.wh_rows.specs.Properties.{StartsActivity, StartsChild, SendsSignal}
use Rattle.wh_rows.specs.Promises.{Promise, at_most, only_after, never_after, between}
use Rattle.wh_table_promises.specs.declared.promise.Happening.{Happening as HappeningRead}
use Rattle.wh_table_promises.specs.declared.promise.Happening.TheVariants as read
use Rattle.wh_table_promises.specs.declared.promise.TablePromise.{TablePromise}
use Rattle.wh_table_promises.specs.declared.promise.TablePromise.TheVariants as promises

-- what may happen
abbrev pub happening_of : HappeningRead → Happening
happening_of (read.Comes pattern) = Comes pattern
happening_of (read.StartsActivity kind) = Gives (StartsActivity kind)
happening_of (read.StartsChild kind) = Gives (StartsChild kind)
happening_of (read.SendsSignal name) = Gives (SendsSignal name)
happening_of read.Completes = Completes
happening_of read.Fails = Fails
happening_of read.Cancels = Cancels
happening_of read.ContinuesAsNew = ContinuesAsNew
happening_of read.Closes = Closes

-- the promise
abbrev pub promise_of : TablePromise → Promise
promise_of (promises.AtMost most what) = at_most most (happening_of what)
promise_of (promises.OnlyAfter first what) = only_after (happening_of first) (happening_of what)
promise_of (promises.NeverAfter first what) = never_after (happening_of first) (happening_of what)
promise_of (promises.Between first last what) = between (happening_of first) (happening_of last) (happening_of what)
