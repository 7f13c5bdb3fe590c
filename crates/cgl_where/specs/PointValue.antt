-- The values in a point file.
use Rattle.std.specs.Prelude.{ℕ, ◌^◌, ◌==◌, nat_lt, pos, Bool, ◌&&◌, Option, Some, None, option_map, if◌then◌else◌}
use Rattle.std.specs.List.{list_any, before_first, after_first}
use Rattle.cgl_num.specs.Decimal.{Decimal, scaled, places}
use Rattle.cgl_num.specs.Fraction.{Fraction, lowest}
use Rattle.cgl_num.specs.NumberText.{Word, is_digits, natural, unsigned, signed, number}

abbrev pub is_slash : ℕ → Bool
is_slash b = b == 47

-- before and after the slash
abbrev pub numerator : Word → Word
numerator text = before_first is_slash text

abbrev pub denominator : Word → Word
denominator text = after_first is_slash text

-- digits with an optional sign, a slash, and digits; the number behind the slash is not 0, and both are below 10^36
abbrev pub is_quotient : Word → Bool
is_quotient text =
    is_digits (unsigned (numerator text)) && is_digits (denominator text) && nat_lt 0 (natural (denominator text))
    && nat_lt (natural (unsigned (numerator text))) (10 ^ 36) && nat_lt (natural (denominator text)) (10 ^ 36)

abbrev pub quotient : Word → Option Fraction
quotient text =
    if is_quotient text then Some (lowest (signed (numerator text) (natural (unsigned (numerator text)))) (pos (natural (denominator text)))) else None

-- a decimal as a fraction in lowest terms
abbrev pub fraction_of : Decimal → Fraction
fraction_of d = lowest (scaled (places d) d) (pos (10 ^ places d))

-- a number, or `p/q`
unfoldable pub value : Word → Option Fraction
value text = if list_any is_slash text then quotient text else option_map fraction_of (number text)
