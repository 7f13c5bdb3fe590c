-- What words that are written out ask for.
use Rattle.std.specs.Prelude.{◌≡◌, List, [], ◌∷◌, Option, Some, None, true, codes}
use Rattle.cgl_words.specs.CommandLine.{Text, CommandWords, CutCommand, CheckCommand, ShowCommand, UpgradeCommand, AtPoint, command_of}

abbrev pub cut : List Text → List Text
cut words = codes "cut" ∷ words

-- `cut m o p` with more
abbrev pub files : List Text → List Text
files words = cut (codes "m" ∷ codes "o" ∷ codes "p" ∷ words)

abbrev pub a_cut : Text → Text → Text → Text → Option CommandWords
a_cut m o p x = Some (CutCommand (record { model = m; out = o; proof = p; start = AtPoint x; generators = record { round = true } }))

abbrev pub AreOfNone : List (List Text) → Type 0
AreOfNone [] = Unit {0}
AreOfNone (words ∷ rest) = ◌≡◌ {A = Option CommandWords} (command_of words) None × AreOfNone rest

-- words that ask for something
pub record AreAsked : Type 0 where
  pub mixed : command_of (cut (codes "--gen=round" ∷ codes "--point" ∷ codes "x.txt" ∷ codes "m.mps" ∷ codes "--" ∷ codes "o.mps" ∷ codes "p.txt" ∷ [])) ≡ a_cut (codes "m.mps") (codes "o.mps") (codes "p.txt") (codes "x.txt")
  pub all_generators : command_of (files (codes "--point" ∷ codes "x" ∷ [])) ≡ a_cut (codes "m") (codes "o") (codes "p") (codes "x")
  pub attached_dash : command_of (files (codes "--point=-v" ∷ [])) ≡ a_cut (codes "m") (codes "o") (codes "p") (codes "-v")
  pub second_sign : command_of (files (codes "--point=a=b" ∷ [])) ≡ a_cut (codes "m") (codes "o") (codes "p") (codes "a=b")
  pub dash_value : command_of (files (codes "--point" ∷ codes "-" ∷ [])) ≡ a_cut (codes "m") (codes "o") (codes "p") (codes "-")
  pub dash_place : command_of (cut (codes "-" ∷ codes "o" ∷ codes "p" ∷ codes "--point=x" ∷ [])) ≡ a_cut (codes "-") (codes "o") (codes "p") (codes "x")
  pub place_behind_end : command_of (cut (codes "--point=x" ∷ codes "m" ∷ codes "--" ∷ codes "--gen=round" ∷ codes "--" ∷ [])) ≡ a_cut (codes "m") (codes "--gen=round") (codes "--") (codes "x")
  pub negative_place_behind_end : command_of (cut (codes "--point=x" ∷ codes "--" ∷ codes "-5" ∷ codes "o" ∷ codes "p" ∷ [])) ≡ a_cut (codes "-5") (codes "o") (codes "p") (codes "x")
  pub shown : command_of (codes "show" ∷ codes "a" ∷ codes "b" ∷ []) ≡ Some (ShowCommand (record { model = codes "a"; out = codes "b" }))
  pub checked : command_of (codes "check" ∷ codes "m" ∷ codes "o" ∷ codes "p" ∷ []) ≡ Some (CheckCommand (record { model = codes "m"; out = codes "o"; proof = codes "p" }))
  pub upgraded : command_of (codes "upgrade" ∷ codes "p" ∷ codes "n" ∷ []) ≡ Some (UpgradeCommand (record { proof = codes "p"; renewed = codes "n" }))

-- words that are of no command
abbrev pub of_no_command : List (List Text)
of_no_command =
    [] ∷
    (codes "trim" ∷ codes "a" ∷ codes "b" ∷ []) ∷
    (codes "a" ∷ codes "show" ∷ codes "b" ∷ []) ∷
    (files (codes "--point" ∷ codes "x" ∷ codes "--point=x" ∷ [])) ∷
    (files (codes "--point=x" ∷ codes "--gen=round" ∷ codes "--gen=round" ∷ [])) ∷
    (files []) ∷
    (cut (codes "--point" ∷ codes "--" ∷ codes "m" ∷ codes "o" ∷ codes "p" ∷ [])) ∷
    (files (codes "--point" ∷ codes "-x" ∷ [])) ∷
    (files (codes "--point" ∷ [])) ∷
    (files (codes "--point=" ∷ [])) ∷
    (cut (codes "--point=x" ∷ codes "-5" ∷ codes "o" ∷ codes "p" ∷ [])) ∷
    (files (codes "--point=x" ∷ codes "--help" ∷ [])) ∷
    (codes "--help" ∷ []) ∷
    (files (codes "--poin" ∷ codes "x" ∷ [])) ∷
    (files (codes "--points=x" ∷ [])) ∷
    (files (codes "--basis" ∷ codes "b.txt" ∷ [])) ∷
    (files (codes "--point=x" ∷ codes "--gen" ∷ codes "round,round" ∷ [])) ∷
    (files (codes "--point=x" ∷ codes "--gen" ∷ codes "round," ∷ [])) ∷
    (files (codes "--point=x" ∷ codes "--gen=" ∷ [])) ∷
    (files (codes "--point=x" ∷ codes "--gen=cover" ∷ [])) ∷
    (cut (codes "m" ∷ codes "m" ∷ codes "p" ∷ codes "--point=x" ∷ [])) ∷
    (files (codes "--point=p" ∷ [])) ∷
    (cut ([] ∷ codes "o" ∷ codes "p" ∷ codes "--point=x" ∷ [])) ∷
    (files (codes "q" ∷ codes "--point=x" ∷ [])) ∷
    (cut (codes "m" ∷ codes "o" ∷ codes "--point=x" ∷ [])) ∷
    (codes "show" ∷ codes "a" ∷ codes "b" ∷ codes "--point=x" ∷ []) ∷
    (codes "upgrade" ∷ codes "p" ∷ codes "n" ∷ codes "q" ∷ []) ∷
    []
