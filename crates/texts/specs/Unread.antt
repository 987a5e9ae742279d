-- Why a file gives no text.
use Rattle.std.specs.declared.io.Error.{Error}
use Rattle.std.specs.declared.io.ErrorKind.{ErrorKind}
use Rattle.std.specs.declared.io.ErrorKind.TheVariants.{NotFound}
use Rattle.std.specs.IoError.{error_kind}
use Rattle.texts.specs.declared.unread.Unread.{Unread}
use Rattle.texts.specs.declared.unread.Unread.TheVariants.{Missing, NoText}

-- a file of that kind of failure is missing, or is no text
abbrev pub unread_at : ErrorKind → Unread
unread_at NotFound = Missing
unread_at _ = NoText

-- the failure to read a file
abbrev pub unread_of : Error → Unread
unread_of e = unread_at (error_kind e)
