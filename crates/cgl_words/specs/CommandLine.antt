-- The words of the command line.
use Rattle.std.specs.Prelude.{ℕ, List, [], ◌∷◌, Option, Some, None, Bool, true, false, not, ◌&&◌, bytes_eq, codes, nat_eq, if◌then◌else◌}

abbrev pub Text : Type 0
Text = List ℕ

-- ---- one word

-- a `-` and more
abbrev pub is_dashed : Text → Bool
is_dashed [] = false
is_dashed (first ∷ []) = false
is_dashed (first ∷ second ∷ rest) = nat_eq first 45

-- the options: `--point` and `--gen`
pub data Known : Type 0 where
  Point : Known
  Generators : Known

unfoldable pub known : Text → Option Known
known name = if bytes_eq name (codes "--point") then Some Point else if bytes_eq name (codes "--gen") then Some Generators else None

-- what stands before the first byte `at`, and what stands behind it, if it is there
pub record Halves : Type 0 where
  pub front : Text
  pub back : Option Text

abbrev pub behind : ℕ → Halves → Halves
behind byte h = record { front = byte ∷ h.front; back = h.back }

abbrev pub halves : ℕ → Text → Halves
halves at [] = record { front = []; back = None }
halves at (byte ∷ rest) = if nat_eq byte at then record { front = []; back = Some rest } else behind byte (halves at rest)

-- ---- word by word

-- what the next word may be
pub data Turn : Type 0 where
  Any : Turn
  ValueOf : Known → Turn
  OnlyPlaces : Turn

-- what was read so far: the positional words in order, and the values of the options
pub record Reading : Type 0 where
  pub turn : Turn
  pub first : Option Text
  pub second : Option Text
  pub third : Option Text
  pub point : Option Text
  pub generators : Option Text

abbrev pub nothing : Reading
nothing = record { turn = Any; first = None; second = None; third = None; point = None; generators = None }

-- a positional word; no command has more than three
abbrev pub placed_by : Option Text → Option Text → Option Text → Reading → Text → Option Reading
placed_by None _ _ r word = Some (record r { first = Some word })
placed_by (Some a) None _ r word = Some (record r { second = Some word })
placed_by (Some a) (Some b) None r word = Some (record r { third = Some word })
placed_by (Some a) (Some b) (Some c) r word = None

unfoldable pub placed : Reading → Text → Option Reading
placed r word = placed_by r.first r.second r.third r word

-- an option's value, at most once
abbrev pub point_used : Option Text → Reading → Text → Option Reading
point_used None r value = Some (record r { turn = Any; point = Some value })
point_used (Some a) r value = None

abbrev pub generators_used : Option Text → Reading → Text → Option Reading
generators_used None r value = Some (record r { turn = Any; generators = Some value })
generators_used (Some a) r value = None

unfoldable pub used : Reading → Known → Text → Option Reading
used r Point value = point_used r.point r value
used r Generators value = generators_used r.generators r value

-- `--x=v`, or `--x` and then its value
abbrev pub opened_by : Reading → Option Known → Option Text → Option Reading
opened_by r None value = None
opened_by r (Some k) (Some value) = used r k value
opened_by r (Some k) None = Some (record r { turn = ValueOf k })

unfoldable pub opened : Reading → Text → Option Reading
opened r word = opened_by r (known (halves 61 word).front) (halves 61 word).back

abbrev pub step_by : Turn → Reading → Text → Option Reading
step_by OnlyPlaces r word = placed r word
step_by (ValueOf k) r word = if is_dashed word then None else used r k word
step_by Any r word =
    if bytes_eq word (codes "--") then Some (record r { turn = OnlyPlaces })
    else if is_dashed word then opened r word
    else placed r word

unfoldable pub step : Reading → Text → Option Reading
step r word = step_by r.turn r word

abbrev pub read : Option Reading → List Text → Option Reading
read None words = None
read (Some r) [] = Some r
read (Some r) (word ∷ words) = read (step r word) words

-- ---- what is asked

-- the file that says where the columns stand
pub data Start : Type 0 where
  AtPoint : Text → Start

abbrev pub start_name : Start → Text
start_name (AtPoint name) = name

-- which generators are to be run
pub record Chosen : Type 0 where
  pub round : Bool

-- the words between the commas of a list
abbrev pub lengthened : ℕ → List Text → List Text
lengthened byte [] = (byte ∷ []) ∷ []
lengthened byte (part ∷ parts) = (byte ∷ part) ∷ parts

abbrev pub parts : Text → List Text
parts [] = [] ∷ []
parts (byte ∷ rest) = if nat_eq byte 44 then [] ∷ parts rest else lengthened byte (parts rest)

-- one more generator, by its word, each at most once
unfoldable pub with_one : Chosen → Text → Option Chosen
with_one c word = if bytes_eq word (codes "round") && not c.round then Some (record c { round = true }) else None

abbrev pub with_each : Option Chosen → List Text → Option Chosen
with_each None words = None
with_each (Some c) [] = Some c
with_each (Some c) (word ∷ words) = with_each (with_one c word) words

-- all that are built, where no list is given
abbrev pub chosen : Option Text → Option Chosen
chosen None = Some (record { round = true })
chosen (Some list) = with_each (Some (record { round = false })) (parts list)

pub record CutWords : Type 0 where
  pub model : Text
  pub out : Text
  pub proof : Text
  pub start : Start
  pub generators : Chosen

pub record CheckWords : Type 0 where
  pub model : Text
  pub out : Text
  pub proof : Text

pub record ShowWords : Type 0 where
  pub model : Text
  pub out : Text

pub record UpgradeWords : Type 0 where
  pub proof : Text
  pub renewed : Text

pub data CommandWords : Type 0 where
  CutCommand : CutWords → CommandWords
  CheckCommand : CheckWords → CommandWords
  ShowCommand : ShowWords → CommandWords
  UpgradeCommand : UpgradeWords → CommandWords

abbrev pub is_name : Text → Bool
is_name [] = false
is_name (first ∷ rest) = true

abbrev pub differ : Text → Text → Bool
differ a b = not (bytes_eq a b)

-- names of files, none of them empty and no two the same

unfoldable pub are_two : Text → Text → Bool
are_two a b = is_name a && is_name b && differ a b

unfoldable pub are_three : Text → Text → Text → Bool
are_three a b c = are_two a b && is_name c && differ a c && differ b c

unfoldable pub are_four : Text → Text → Text → Text → Bool
are_four a b c d = are_three a b c && is_name d && differ a d && differ b d && differ c d

abbrev pub cut_by : Text → Text → Text → Text → Option Chosen → Option CommandWords
cut_by model out proof point None = None
cut_by model out proof point (Some g) =
    if are_four model out proof point
    then Some (CutCommand (record { model = model; out = out; proof = proof; start = AtPoint point; generators = g }))
    else None

-- `cut MODEL OUT PROOF --point FILE [--gen LIST]`
abbrev pub cut_asked : Option Text → Option Text → Option Text → Option Text → Option Text → Option CommandWords
cut_asked (Some model) (Some out) (Some proof) (Some point) list = cut_by model out proof point (chosen list)
cut_asked _ _ _ _ _ = None

unfoldable pub cut_of : Reading → Option CommandWords
cut_of r = cut_asked r.first r.second r.third r.point r.generators

-- `check MODEL OUT PROOF`
abbrev pub check_asked : Option Text → Option Text → Option Text → Option Text → Option Text → Option CommandWords
check_asked (Some model) (Some out) (Some proof) None None =
    if are_three model out proof then Some (CheckCommand (record { model = model; out = out; proof = proof })) else None
check_asked _ _ _ _ _ = None

unfoldable pub check_of : Reading → Option CommandWords
check_of r = check_asked r.first r.second r.third r.point r.generators

-- `show MODEL OUT`
abbrev pub show_asked : Option Text → Option Text → Option Text → Option Text → Option Text → Option CommandWords
show_asked (Some model) (Some out) None None None =
    if are_two model out then Some (ShowCommand (record { model = model; out = out })) else None
show_asked _ _ _ _ _ = None

unfoldable pub show_of : Reading → Option CommandWords
show_of r = show_asked r.first r.second r.third r.point r.generators

-- `upgrade PROOF NEW`
abbrev pub upgrade_asked : Option Text → Option Text → Option Text → Option Text → Option Text → Option CommandWords
upgrade_asked (Some proof) (Some renewed) None None None =
    if are_two proof renewed then Some (UpgradeCommand (record { proof = proof; renewed = renewed })) else None
upgrade_asked _ _ _ _ _ = None

unfoldable pub upgrade_of : Reading → Option CommandWords
upgrade_of r = upgrade_asked r.first r.second r.third r.point r.generators

unfoldable pub asked : Text → Reading → Option CommandWords
asked command r =
    if bytes_eq command (codes "cut") then cut_of r
    else if bytes_eq command (codes "check") then check_of r
    else if bytes_eq command (codes "show") then show_of r
    else if bytes_eq command (codes "upgrade") then upgrade_of r
    else None

-- no option waits for its value at the end
abbrev pub whole_by : Turn → Text → Reading → Option CommandWords
whole_by (ValueOf k) command r = None
whole_by Any command r = asked command r
whole_by OnlyPlaces command r = asked command r

abbrev pub whole : Text → Option Reading → Option CommandWords
whole command None = None
whole command (Some r) = whole_by r.turn command r

-- the first word is the command
abbrev pub command_of : List Text → Option CommandWords
command_of [] = None
command_of (command ∷ words) = whole command (read (Some nothing) words)
