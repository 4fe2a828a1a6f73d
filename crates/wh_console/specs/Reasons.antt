-- Why something can't be read.
use Rattle.std.specs.Prelude.{ℕ, List, codes}
use Rattle.std.specs.declared.io.ErrorKind.{ErrorKind}
use Rattle.std.specs.declared.io.ErrorKind.TheVariants.{NotFound, PermissionDenied, IsADirectory, NotADirectory, FilesystemLoop, InvalidFilename, OutOfMemory as NoMemory}
use Rattle.wh_console.specs.declared.files.Reason.{Reason}
use Rattle.wh_console.specs.declared.files.Reason.TheVariants.{Missing, Forbidden, IsFolder, NoFolder, NoFile, LinkLoop, LongName, Other}
use Rattle.wh_console.specs.declared.files.FolderFault.{FolderFault}
use Rattle.wh_console.specs.declared.files.FolderFault.TheVariants.{Unreadable, OutOfMemory}

-- the reason for an error that the system reports
abbrev pub reason_of : ErrorKind → Reason
reason_of NotFound = Missing
reason_of PermissionDenied = Forbidden
reason_of IsADirectory = IsFolder
reason_of NotADirectory = NoFolder
reason_of FilesystemLoop = LinkLoop
reason_of InvalidFilename = LongName
reason_of _ = Other

-- the fault for an error that the system reports; want of memory is a fault of its own
abbrev pub fault_of : ErrorKind → FolderFault
fault_of NoMemory = OutOfMemory
fault_of kind = Unreadable (reason_of kind)

-- the words of the report
abbrev pub reason_words : Reason → List ℕ
reason_words Missing = codes "no such file or folder"
reason_words Forbidden = codes "permission denied"
reason_words IsFolder = codes "is a folder"
reason_words NoFolder = codes "is no folder"
reason_words NoFile = codes "is no file"
reason_words LinkLoop = codes "too many links"
reason_words LongName = codes "a name is too long"
reason_words Other = codes "the system can't read it"
