-- The words of a command, as a list of bytes for each.
use Rattle.std.specs.Prelude.{ℕ, List, Option, option_map}
use Rattle.std.specs.Borrow.{Bor}
use Rattle.cgl_words.specs.declared.option.Known.{Known as KnownOption}
use Rattle.cgl_words.specs.declared.option.Known.TheVariants.{Point as PointOption, Generators as GeneratorsOption}
use Rattle.cgl_words.specs.declared.reading.Turn.{Turn as NextTurn}
use Rattle.cgl_words.specs.declared.reading.Turn.TheVariants.{Any as AnyWord, ValueOf as ItsValue, OnlyPlaces as PlacesOnly}
use Rattle.cgl_words.specs.declared.reading.Reading.{Reading as Read}
use Rattle.cgl_words.specs.declared.asked.Generators.{Generators as Choice}
use Rattle.cgl_words.specs.declared.asked.Start.{Start as Source}
use Rattle.cgl_words.specs.declared.asked.Start.TheVariants.{Point as AtFile}
use Rattle.cgl_words.specs.declared.asked.Cut.{Cut}
use Rattle.cgl_words.specs.declared.asked.Check.{Check}
use Rattle.cgl_words.specs.declared.asked.Show.{Show}
use Rattle.cgl_words.specs.declared.asked.Upgrade.{Upgrade}
use Rattle.cgl_words.specs.declared.asked.Command.{Command}
use Rattle.cgl_words.specs.declared.asked.Command.TheVariants.{Cut as CutVariant, Check as CheckVariant, Show as ShowVariant, Upgrade as UpgradeVariant}
use Rattle.cgl_words.specs.CommandLine.{Text, Known, Point, Generators, Turn, Any, ValueOf, OnlyPlaces, Reading, Start, AtPoint, Chosen, CutWords, CheckWords, ShowWords, UpgradeWords, CommandWords, CutCommand, CheckCommand, ShowCommand, UpgradeCommand}

abbrev pub known_of : KnownOption → Known
known_of PointOption = Point
known_of GeneratorsOption = Generators

abbrev pub turn_of : NextTurn → Turn
turn_of AnyWord = Any
turn_of (ItsValue k) = ValueOf (known_of k)
turn_of PlacesOnly = OnlyPlaces

abbrev pub text_of : Bor (List ℕ) → Text
text_of word = word.now

abbrev pub maybe : Option (Bor (List ℕ)) → Option Text
maybe word = option_map text_of word

abbrev pub reading_of : Read → Reading
reading_of r = record {
  turn = turn_of r.turn;
  first = maybe r.first;
  second = maybe r.second;
  third = maybe r.third;
  point = maybe r.point;
  generators = maybe r.generators;
}

abbrev pub chosen_of : Choice → Chosen
chosen_of g = record { round = g.round }

abbrev pub start_of : Source → Start
start_of (AtFile name) = AtPoint name.now

abbrev pub words_of : Cut → CutWords
words_of c = record { model = c.model.now; out = c.out.now; proof = c.proof.now; start = start_of c.start; generators = chosen_of c.generators }

abbrev pub check_words_of : Check → CheckWords
check_words_of c = record { model = c.model.now; out = c.out.now; proof = c.proof.now }

abbrev pub show_words_of : Show → ShowWords
show_words_of s = record { model = s.model.now; out = s.out.now }

abbrev pub upgrade_words_of : Upgrade → UpgradeWords
upgrade_words_of u = record { proof = u.proof.now; renewed = u.renewed.now }

abbrev pub meant : Command → CommandWords
meant (CutVariant c) = CutCommand (words_of c)
meant (CheckVariant c) = CheckCommand (check_words_of c)
meant (ShowVariant s) = ShowCommand (show_words_of s)
meant (UpgradeVariant u) = UpgradeCommand (upgrade_words_of u)
