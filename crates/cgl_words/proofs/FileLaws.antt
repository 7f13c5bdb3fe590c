-- The files of a command differ.
use Rattle.std.proofs.Common.{◌≡◌, Bool, true, false, List, [], ◌∷◌, Option, Some, None, IfSome, bytes_eq, codes, refl, if◌then◌else◌}
use Rattle.cgl_words.specs.CommandLine.{Text, Turn, Any, ValueOf, OnlyPlaces, Reading, AtPoint, Chosen, CommandWords, CutCommand, CheckCommand, ShowCommand, UpgradeCommand, are_two, are_three, are_four, cut_by, cut_asked, cut_of, check_asked, check_of, show_asked, show_of, upgrade_asked, upgrade_of, asked, whole, whole_by, read, nothing, command_of}
use Rattle.cgl_words.specs.FileNames.{FilesDiffer, HasOwnFiles}

abbrev Fine : Option CommandWords → Type 0
Fine o = IfSome o HasOwnFiles

-- where a test holds
tested : (t : Bool) (w : CommandWords) → (t ≡ true → HasOwnFiles w) → Fine (if t then Some w else None)
tested true w f = f refl
tested false w f = tt

either : (t : Bool) (a b : Option CommandWords) → Fine a → Fine b → Fine (if t then a else b)
either true a b fa fb = fa
either false a b fa fb = fb

cut_tested : (m o p x : Text) (g : Option Chosen) → Fine (cut_by m o p x g)
cut_tested m o p x None = tt
cut_tested m o p x (Some g) = tested (are_four m o p x) (CutCommand (record { model = m; out = o; proof = p; start = AtPoint x; generators = g })) (λ e. e)

cut_fine : (a b c d e : Option Text) → Fine (cut_asked a b c d e)
cut_fine (Some m) (Some o) (Some p) (Some x) e = cut_tested m o p x _
cut_fine _ _ _ _ _ = tt

check_fine : (a b c d e : Option Text) → Fine (check_asked a b c d e)
check_fine (Some m) (Some o) (Some p) None None = tested (are_three m o p) (CheckCommand (record { model = m; out = o; proof = p })) (λ e. e)
check_fine _ _ _ _ _ = tt

show_fine : (a b c d e : Option Text) → Fine (show_asked a b c d e)
show_fine (Some m) (Some o) None None None = tested (are_two m o) (ShowCommand (record { model = m; out = o })) (λ e. e)
show_fine _ _ _ _ _ = tt

upgrade_fine : (a b c d e : Option Text) → Fine (upgrade_asked a b c d e)
upgrade_fine (Some p) (Some n) None None None = tested (are_two p n) (UpgradeCommand (record { proof = p; renewed = n })) (λ e. e)
upgrade_fine _ _ _ _ _ = tt

asked_fine : (command : Text) (r : Reading) → Fine (asked command r)
unfolding asked cut_of check_of show_of upgrade_of
asked_fine command r =
    either (bytes_eq command (codes "cut")) _ _ (cut_fine r.first r.second r.third r.point r.generators)
    (either (bytes_eq command (codes "check")) _ _ (check_fine r.first r.second r.third r.point r.generators)
    (either (bytes_eq command (codes "show")) _ _ (show_fine r.first r.second r.third r.point r.generators)
    (either (bytes_eq command (codes "upgrade")) _ _ (upgrade_fine r.first r.second r.third r.point r.generators) tt)))

turn_fine : (t : Turn) (command : Text) (r : Reading) → Fine (whole_by t command r)
turn_fine (ValueOf k) command r = tt
turn_fine Any command r = asked_fine command r
turn_fine OnlyPlaces command r = asked_fine command r

whole_fine : (command : Text) (o : Option Reading) → Fine (whole command o)
whole_fine command None = tt
whole_fine command (Some r) = turn_fine r.turn command r

pub files_differ : FilesDiffer
files_differ [] = tt
files_differ (command ∷ words) = whole_fine command (read (Some nothing) words)
