-- The generators: their numbers, how many items each has, and what each says.
use Rattle.std.specs.Prelude.{◌≡◌, ℕ, ◌<◌}
use Rattle.cgl_derive.specs.declared.answer.Answer.{Answer}
use Rattle.cgl_derive.specs.declared.answer.Answer.TheVariants.{Cut}
use Rattle.cgl_derive.specs.declared.answer.Candidate.{Candidate}
use Rattle.cgl_gen.specs.CutLaws.{IsCutAt}
use Rattle.cgl_gen.specs.RoundLaws.{round_lawful}
use Rattle.cgl_gen.specs.RoundMember.{round_count, round_says}
use Rattle.cgl_gen.specs.Setting.{Setting, IsSetting}
use Rattle.cgl_pool.specs.declared.any_gen.AnyGen.{AnyGen}
use Rattle.cgl_pool.specs.declared.any_gen.AnyGen.TheVariants.{Rounder}
use Rattle.cgl_pool.specs.Does.{Does, does}

unfoldable pub number_of : AnyGen → ℕ
number_of (Rounder g) = 0

unfoldable pub count_of : AnyGen → Setting → ℕ
count_of (Rounder g) s = round_count s

unfoldable pub says_of : AnyGen → Setting → ℕ → Answer
says_of (Rounder g) s item = round_says s item

-- what each of them does
abbrev pub any : Does AnyGen
any = does number_of count_of says_of

-- each keeps the law
pub any_lawful : (g : AnyGen) (s : Setting) (item : ℕ) (c : Candidate) → IsSetting s → item < count_of g s → says_of g s item ≡ Cut c → IsCutAt s.model s.point c
unfolding says_of
any_lawful (Rounder g) s item c valid below said = round_lawful s item c valid said
