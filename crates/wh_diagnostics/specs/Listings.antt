-- What paths name, and what is reported of them.
use Rattle.std.specs.Prelude.{◌≡◌, ◌==◌, ◌⊎◌, ◌||◌, ◌&&◌, ℕ, List, [], ◌∷◌, ◌++◌, length, not, All, Bool, false, None, String, codes, if◌then◌else◌}
use Rattle.std.specs.declared.alloc.Global.{Global}
use Rattle.wh_console.specs.Inputs.{IsCalled, IsOf}
use Rattle.wh_console.specs.Names.{IsBadName}
use Rattle.wh_console.specs.declared.files.Input.{Input}
use Rattle.wh_console.specs.Consoles.{ConsoleView, Reported}
use Rattle.wh_diagnostics.specs.Diagnostics.{bad_name_lines, named_line}
use Rattle.wh_diagnostics.specs.declared.failures.Failure.{Failure}
use Rattle.wh_diagnostics.specs.declared.failures.Failure.TheVariants.{Unreadable, OutOfMemory}

-- files are called by their paths where there is more than one path
abbrev pub is_by_path : List (List ℕ) → Bool
is_by_path more = not (length more == 0)

-- what is reported of the inputs of a path, and of the bad names there: a line for each of these, or else that there is
-- no file, if so
abbrev pub listing_lines : List ℕ → List Input → List (String Global) → List ℕ → List ℕ
listing_lines path inputs names name =
    if not (length names == 0) then bad_name_lines path names name
    else (if length inputs == 0 then named_line (codes "no .json file in " ++ path) name else [])

-- the inputs are those of a path, called as is asked for; files are left out where there are bad names, which were
-- reported; where there is no file, that was reported
pub record IsListed (by_path : Bool) (path : List ℕ) (inputs : List Input) (left_out : Bool)
    (old new : ConsoleView) : Type 0 where
  pub called : All (IsCalled by_path) inputs
  pub from : All (λ input. IsOf path input.origin) inputs
  pub names : List (String Global)
  pub bad : All IsBadName names
  pub left : left_out ≡ not (length names == 0)
  pub reported : Reported old new (listing_lines path inputs names)

-- the inputs are those of paths, in their order, files are left out where those of a path are, and what is reported of
-- the paths was reported in their order
abbrev pub AreListed : Bool → List (List ℕ) → List Input → Bool → (old new : ConsoleView) → Type 0
AreListed by_path [] inputs left_out old new = (inputs ≡ []) × (left_out ≡ false) × (new ≡ old)
AreListed by_path (path ∷ more) inputs left_out old new =
    (own rest : List Input)
    × (own_left rest_left : Bool)
    × (between : ConsoleView)
    × (inputs ≡ own ++ rest)
    × (left_out ≡ (own_left || rest_left))
    × IsListed by_path path own own_left old between
    × AreListed by_path more rest rest_left between new

-- files are left out, or there have to be files, and there is none
abbrev pub lacks_files : (left_out required : Bool) → List Input → Bool
lacks_files left_out required inputs = left_out || (required && (length inputs == 0))

-- nothing can be read at a path: the system gives the reason, or there was no memory
abbrev pub IsUnreadAt : (path : List ℕ) → Failure → Type 0
IsUnreadAt path (Unreadable dir entry reason) = (dir ≡ path) × (entry ≡ None)
IsUnreadAt path OutOfMemory = Unit {0}
IsUnreadAt path _ = ⊥

-- nothing can be read at the first of these paths, or there was no memory
abbrev pub IsUnreadFirst : List (List ℕ) → Failure → Type 0
IsUnreadFirst [] failure = failure ≡ OutOfMemory
IsUnreadFirst (path ∷ paths) failure = IsUnreadAt path failure

-- paths were listed up to one at which nothing can be read, or until there was no memory: what is reported of those
-- before it was reported in their order, and nothing more
pub record AreUnlisted (by_path : Bool) (paths : List (List ℕ)) (old new : ConsoleView)
    (failure : Failure) : Type 0 where
  pub front : List (List ℕ)
  pub back : List (List ℕ)
  pub parts : paths ≡ front ++ back
  pub inputs : List Input
  pub left_out : Bool
  pub listed : AreListed by_path front inputs left_out old new
  pub unread : IsUnreadFirst back failure

-- inputs were listed, and then this came of them
pub record AfterListing {A : Type 0}
    (Lists : (inputs : List Input) → (left_out : Bool) → (old new : ConsoleView) → Type 0)
    (Own : (inputs : List Input) → (left_out : Bool) → (old new : ConsoleView) → A → Type 0)
    (old new : ConsoleView) (own : A) : Type 0 where
  pub inputs : List Input
  pub left_out : Bool
  pub between : ConsoleView
  pub listed : Lists inputs left_out old between
  pub done : Own inputs left_out between new own

-- what paths name was listed, and then this came of it
abbrev pub AtPaths : {A : Type 0} → (Own : List Input → (left_out : Bool) → (old new : ConsoleView) → A → Type 0)
    → (first : List ℕ) → (more : List (List ℕ)) → (old new : ConsoleView) → A → Type 0
AtPaths Own first more = AfterListing (AreListed (is_by_path more) (first ∷ more)) Own

-- paths can't be listed, or what they name was, and then this came of it
abbrev pub FailsAtPaths : (Fails : List Input → (old new : ConsoleView) → Failure → Type 0)
    → (first : List ℕ) → (more : List (List ℕ)) → (old new : ConsoleView) → Failure → Type 0
FailsAtPaths Fails first more old new failure =
    AreUnlisted (is_by_path more) (first ∷ more) old new failure
    ⊎ AtPaths (λ inputs left_out. Fails inputs) first more old new failure
