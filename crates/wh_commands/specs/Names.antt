-- The names of a worker.
use Rattle.std.specs.Prelude.{ℕ, List, ◌++◌, codes}

-- the name of a sticky queue: the identity and the Task Queue, with a colon between them
abbrev pub sticky_queue_of : List ℕ → List ℕ → List ℕ
sticky_queue_of identity task_queue = identity ++ codes ":" ++ task_queue
