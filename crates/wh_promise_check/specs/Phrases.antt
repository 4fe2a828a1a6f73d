-- The promise that a phrase says, about what may happen.
use Rattle.std.specs.Prelude.{ℕ, List, Option, Some, None, option_map, option_and_then}
use Rattle.std.specs.Result.{result_ok}
use Rattle.wh_rows.specs.Tables.{JobPattern}
use Rattle.wh_table_promises.specs.declared.promise.Happening.{Happening}
use Rattle.wh_table_promises.specs.declared.promise.Happening.TheVariants as happenings
use Rattle.wh_table_promises.specs.declared.promise.TablePromise.{TablePromise}
use Rattle.wh_table_promises.specs.declared.promise.TablePromise.TheVariants as promises
use Rattle.wh_table_text.specs.Reading.{job_at}
use Rattle.wh_promise_phrases.specs.declared.phrase.PromisePhrase.TheVariants as phrases
use Rattle.wh_promise_phrases.specs.Phrases.{PromisePhrase, phrase_in}
use Rattle.wh_promise_phrases.specs.declared.thing.PhraseThing.TheVariants as things
use Rattle.wh_promise_phrases.specs.Things.{PhraseThing, thing_in}
use Rattle.wh_promise_check.specs.declared.reading.Both.{Both}

-- the jobs that a text names as rows do
abbrev pub job_in : List ℕ → Option JobPattern
job_in text = result_ok (job_at 0 text)

-- that such a job comes
abbrev pub job_happening : List ℕ → Option Happening
job_happening text = option_map (λ pattern. happenings.Comes pattern) (job_in text)

-- what may happen
abbrev pub happening_by : PhraseThing → Option Happening
happening_by (things.Job text) = job_happening text
happening_by (things.Activity name) = Some (happenings.StartsActivity name)
happening_by (things.Child name) = Some (happenings.StartsChild name)
happening_by (things.Send name) = Some (happenings.SendsSignal name)
happening_by things.Complete = Some happenings.Completes
happening_by things.Fail = Some happenings.Fails
happening_by things.Canceled = Some happenings.Cancels
happening_by things.Continued = Some happenings.ContinuesAsNew
happening_by things.Close = Some happenings.Closes

-- what may happen, by the text that says it
unfoldable pub happening_in : List ℕ → Option Happening
happening_in text = option_and_then happening_by (thing_in text)

-- two things that may happen
abbrev pub both_of : Option Happening → Option Happening → Option Both
both_of (Some first) (Some what) = Some (record { first = first; what = what })
both_of _ _ = None

-- what two texts say
abbrev pub both_in : List ℕ → List ℕ → Option Both
both_in first what = both_of (happening_in first) (happening_in what)

-- at most so often
abbrev pub at_most : ℕ → List ℕ → Option TablePromise
at_most most what = option_map (λ what. promises.AtMost most what) (happening_in what)

-- the second only after the first
abbrev pub only_after : List ℕ → List ℕ → Option TablePromise
only_after first what = option_map (λ both. promises.OnlyAfter both.first both.what) (both_in first what)

-- the second not any more after the first
abbrev pub never_after : List ℕ → List ℕ → Option TablePromise
never_after first what = option_map (λ both. promises.NeverAfter both.first both.what) (both_in first what)

-- between the first and the second, the third
abbrev pub between_of : Option Happening → Option Both → Option TablePromise
between_of (Some first) (Some both) = Some (promises.Between first both.first both.what)
between_of _ _ = None

-- so by their texts
abbrev pub between : List ℕ → List ℕ → List ℕ → Option TablePromise
between first last what = between_of (happening_in first) (both_in last what)

-- the promise, by the texts of what may happen
abbrev pub promise_by : PromisePhrase → Option TablePromise
promise_by (phrases.AtMost most what) = at_most most what
promise_by (phrases.OnlyAfter first what) = only_after first what
promise_by (phrases.NeverAfter first what) = never_after first what
promise_by (phrases.Between first last what) = between first last what

-- the promise that a phrase says
unfoldable pub promise_in : List ℕ → Option TablePromise
promise_in text = option_and_then promise_by (phrase_in text)
