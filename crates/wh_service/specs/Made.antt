-- What is made of files, with what is reported of them beside it.
use Rattle.std.specs.Prelude.{◌≡◌, List, map, Option}
use Rattle.std.specs.List.{AllZip, flat_map}
use Rattle.wh_workflow.specs.Law.{Program}
use Rattle.wh_file_faults.specs.Faults.{File}
use Rattle.wh_service.specs.declared.file_faults.FileFault.{FileFault}
use Rattle.wh_service.specs.Faults.{IsReportedOf, reported_of, AreFaultsOf}

-- what was made of inputs by a relation, one by one, and apart from it, in the same order, what is reported of each
pub record AreMade {T U : Type 0} (Makes : T → U × Option FileFault → Type 0) (inputs : List T) (made : List U)
    (faults : List FileFault) : Type 0 where
  pub both : List (U × Option FileFault)
  pub each : AllZip Makes inputs both
  pub ones : made ≡ map (λ one. one.0) both
  pub told : faults ≡ flat_map reported_of (map (λ one. one.1) both)

-- what was made of an input: it was read as a file, and the rest was made and is reported of that file
pub record IsMadeOf {S T U : Type 0} (program : Program S) (Reads : T → File → Type 0) (Gives : File → U → Type 0)
    (input : T) (made : U × Option FileFault) : Type 0 where
  pub file : File
  pub read : Reads input file
  pub gives : Gives file made.0
  pub told : IsReportedOf program file made.1

-- what was made of inputs: each was read as a file, in order, and the rest was made and is reported of these files
pub record AreMadeOf {S T U : Type 0} (program : Program S) (Reads : T → File → Type 0) (Gives : File → U → Type 0)
    (inputs : List T) (made : List U) (faults : List FileFault) : Type 0 where
  pub files : List File
  pub read : AllZip Reads inputs files
  pub gives : AllZip Gives files made
  pub told : AreFaultsOf program files faults
