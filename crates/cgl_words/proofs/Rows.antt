-- What words that are written out ask for, computed.
use Rattle.std.proofs.Common.{refl}
use Rattle.std.specs.Bool.{⊤}
use Rattle.cgl_words.specs.CommandLine.{known, placed, used, opened, step, are_two, are_three, are_four, cut_of, check_of, show_of, upgrade_of, asked, with_one}
use Rattle.cgl_words.specs.KnownWords.{AreAsked, AreOfNone, of_no_command}

unfoldable command_line : ⊤
unfolding known placed used opened step are_two are_three are_four cut_of check_of show_of upgrade_of asked with_one
command_line = tt

pub are_asked : AreAsked
unfolding command_line
are_asked = record { mixed = refl; all_generators = refl; attached_dash = refl; second_sign = refl; dash_value = refl; dash_place = refl; place_behind_end = refl; negative_place_behind_end = refl; shown = refl; checked = refl; upgraded = refl }

pub are_of_none : AreOfNone of_no_command
unfolding command_line
are_of_none = (refl, (refl, (refl, (refl, (refl, (refl, (refl, (refl, (refl, (refl, (refl, (refl, (refl, (refl, (refl, (refl, (refl, (refl, (refl, (refl, (refl, (refl, (refl, (refl, (refl, (refl, (refl, tt)))))))))))))))))))))))))))
