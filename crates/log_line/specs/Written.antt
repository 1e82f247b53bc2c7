-- A line in the code: what is written of it so far.
use Rattle.std.specs.Prelude.{ℕ, List, take}
use Rattle.log_line.specs.declared.line.Line.{Line}

abbrev pub written : Line → List ℕ
written line = take line.length line.bytes
