-- The names of a command's files.
use Rattle.std.specs.Prelude.{◌≡◌, true, List, IfSome}
use Rattle.cgl_words.specs.CommandLine.{CommandWords, CutCommand, CheckCommand, ShowCommand, UpgradeCommand, are_two, are_three, are_four, command_of, start_name, Text}

-- none of them is empty, and no two are the same
abbrev pub HasOwnFiles : CommandWords → Type 0
HasOwnFiles (CutCommand c) = are_four c.model c.out c.proof (start_name c.start) ≡ true
HasOwnFiles (CheckCommand c) = are_three c.model c.out c.proof ≡ true
HasOwnFiles (ShowCommand s) = are_two s.model s.out ≡ true
HasOwnFiles (UpgradeCommand u) = are_two u.proof u.renewed ≡ true

abbrev pub FilesDiffer : Type 0
FilesDiffer = (words : List Text) → IfSome (command_of words) HasOwnFiles
