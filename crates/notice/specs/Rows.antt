-- What a row of the table of codes says.
-- Assumes nothing.
use Rattle.notice.specs.Codes.{Code}
use Rattle.notice.specs.declared.tables.CodeRow.{CodeRow}

-- a row as the code that it tells of
abbrev pub code_of : CodeRow → Code
code_of r =
    record {
      code = r.code;
      before = r.before.now;
      names = r.names;
      shows = r.shows;
      after = r.after.now;
      accepted = r.accepted;
      bare = r.bare;
    }
