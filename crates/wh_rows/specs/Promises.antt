-- What a table may promise, and what each promise means.
use Rattle.std.specs.Prelude.{◌≡◌, ℕ, ◌≤◌, List, [], ◌∷◌, ◌++◌, IsTrue, IsFalse}
use Rattle.wh_workflow.specs.declared.job.Job.{Job}
use Rattle.wh_rows.specs.Tables.{Definition}
use Rattle.wh_rows.specs.Rows.{initial}
use Rattle.wh_rows.specs.Courses.{Happening, Closes, Entry, is_at, times, happens, course, begins}
use Rattle.wh_rows.specs.Watches.{Watch, new_standing, watched}

-- a promise
pub data Promise : Type 0 where
  -- it happens at most so many times
  at_most : ℕ → Happening → Promise
  -- the second happens only after the first
  only_after : Happening → Happening → Promise
  -- after the first, the second never happens
  never_after : Happening → Happening → Promise
  -- after the first time that the first happens, the third happens before the second does
  between : Happening → Happening → Happening → Promise
  -- a watch that the author writes keeps to its budget; it begins in state 1
  keeps_watch : Watch → Promise

-- after the first, the run does not close before the second has happened
abbrev pub before_close : Happening → Happening → Promise
before_close first what = between first Closes what

-- it happened at most so many times
abbrev pub IsAtMost : ℕ → Happening → List Entry → Type 0
IsAtMost most what entries = times what entries ≤ most

-- whenever the second happened, the first had happened before
abbrev pub IsOnlyAfter : Happening → Happening → List Entry → Type 0
IsOnlyAfter first what entries =
    (earlier : List Entry) (entry : Entry) (later : List Entry) → entries ≡ earlier ++ entry ∷ later
    → IsTrue (is_at what entry) → IsTrue (happens first earlier)

-- after the first happened, the second did not
abbrev pub IsNeverAfter : Happening → Happening → List Entry → Type 0
IsNeverAfter first what entries =
    (earlier : List Entry) (entry : Entry) (later : List Entry) → entries ≡ earlier ++ entry ∷ later
    → IsTrue (happens first earlier) → IsFalse (is_at what entry)

-- between the first time that the first happened and each later time that the second did, the third happened
abbrev pub IsBetween : Happening → Happening → Happening → List Entry → Type 0
IsBetween first last what entries =
    (earlier : List Entry) (one : Entry) (middle : List Entry) (other : Entry) (later : List Entry)
    → entries ≡ earlier ++ one ∷ (middle ++ other ∷ later)
    → IsFalse (happens first earlier) → IsTrue (is_at first one) → IsTrue (is_at last other)
    → IsTrue (happens what middle)

-- the meaning of a promise for what happened in a run
abbrev pub KeptIn : Promise → List Entry → Type 0
KeptIn (at_most most what) entries = IsAtMost most what entries
KeptIn (only_after first what) entries = IsOnlyAfter first what entries
KeptIn (never_after first what) entries = IsNeverAfter first what entries
KeptIn (between first last what) entries = IsBetween first last what entries
KeptIn (keeps_watch watch) entries = (watched watch.turns new_standing entries).spent ≤ watch.budget

-- the meaning of all of them
abbrev pub KeptAllIn : List Promise → List Entry → Type 0
KeptAllIn [] entries = Unit {0}
KeptAllIn (promise ∷ rest) entries = KeptIn promise entries × KeptAllIn rest entries

-- the meaning of a promise for a table: each run keeps it, whatever jobs come
abbrev pub Promises : Definition → Promise → Type 0
Promises table promise = (list : List Job) → IsTrue (begins list) → KeptIn promise (course table (initial table) list)

-- it happens at most so many times, whatever jobs come
abbrev pub HappensAtMost : Definition → ℕ → Happening → Type 0
HappensAtMost table most what = Promises table (at_most most what)

-- the meaning of all of them for a table
abbrev pub PromisesAll : Definition → List Promise → Type 0
PromisesAll table [] = Unit {0}
PromisesAll table (promise ∷ rest) = Promises table promise × PromisesAll table rest

-- the watch that decides a promise
abbrev pub watch_of : Promise → Watch
watch_of (at_most most what) =
    record { turns = record { from = 1; what = what; to = 1; cost = 1 } ∷ []; budget = most }
watch_of (only_after first what) = record {
  turns =
      record { from = 1; what = what; to = 1; cost = 1 } ∷ record { from = 1; what = first; to = 2; cost = 0 } ∷ [];
  budget = 0;
}
watch_of (never_after first what) = record {
  turns =
      record { from = 1; what = first; to = 2; cost = 0 } ∷ record { from = 2; what = what; to = 2; cost = 1 } ∷ [];
  budget = 0;
}
watch_of (between first last what) = record {
  turns =
      record { from = 1; what = first; to = 2; cost = 0 } ∷ record { from = 2; what = last; to = 2; cost = 1 }
      ∷ record { from = 2; what = what; to = 3; cost = 0 } ∷ [];
  budget = 0;
}
watch_of (keeps_watch watch) = watch
