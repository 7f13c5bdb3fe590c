-- Numbers as texts: their form, their value `m * 10^e`, and their range.
use Rattle.std.specs.Prelude.{◌≡◌, ℕ, List, ◌<◌, ◌≤◌, min, true, ◌+◌, ◌-◌, ◌*◌, ◌/◌, ◌^◌, ◌==◌, nat_lt, nat_le, ℤ, pos, neg_ℤ, ◌+ℤ◌, ◌-ℤ◌, int_lt, int_le, unsigned_abs, Bool, false, ◌||◌, ◌&&◌, not, if◌then◌else◌, [], ◌∷◌, ◌++◌, length, fold, Option, Some, None}
use Rattle.std.specs.List.{list_any, list_all, before_first, after_first, prefix_len, suffix_len}
use Rattle.cgl_num.specs.Decimal.{Decimal}
use Rattle.cgl_num.specs.declared.number_text.Limit.{Limit}
use Rattle.cgl_num.specs.declared.number_text.Limit.TheVariants.{Finite, Plus, Minus}

-- a field, a name or a word: its bytes
abbrev pub Word : Type 0
Word = List ℕ

abbrev pub whole : ℤ → Decimal
whole n = record { m = n; e = pos 0 }

abbrev pub is_digit : ℕ → Bool
is_digit b = nat_le 48 b && nat_le b 57

-- one digit or more
abbrev pub is_digits : Word → Bool
is_digits digits = nat_lt 0 (length digits) && list_all is_digit digits

abbrev pub natural : Word → ℕ
natural digits = fold (λ n b. 10 * n + (b - 48)) 0 digits

-- what follows an optional sign
abbrev pub unsigned : Word → Word
unsigned [] = []
unsigned (b ∷ text) = if b == 43 || b == 45 then text else b ∷ text

abbrev pub is_negative : Word → Bool
is_negative [] = false
is_negative (b ∷ text) = b == 45

-- n with the sign that the text begins with
abbrev pub signed : Word → ℕ → ℤ
signed text n = if is_negative text then neg_ℤ (pos n) else pos n

abbrev pub is_exponent_letter : ℕ → Bool
is_exponent_letter b = b == 101 || b == 69 || b == 100 || b == 68

abbrev pub is_point : ℕ → Bool
is_point b = b == 46

-- what stands before and after the exponent's letter
abbrev pub mantissa : Word → Word
mantissa text = before_first is_exponent_letter (unsigned text)

abbrev pub exponent : Word → Word
exponent text = after_first is_exponent_letter (unsigned text)

-- the digits before and after the point
abbrev pub decimals : Word → Word
decimals text = after_first is_point (mantissa text)

abbrev pub digits : Word → Word
digits text = before_first is_point (mantissa text) ++ decimals text

-- an optional sign, digits with at most one point and at least one digit, and optionally a letter, an optional sign and at least one digit
abbrev pub is_number : Word → Bool
is_number text = is_digits (digits text) && (not (list_any is_exponent_letter (unsigned text)) || is_digits (unsigned (exponent text)))

abbrev pub is_zero : ℕ → Bool
is_zero b = b == 48

-- the number is the natural number of its digits times ten to this
abbrev pub scale : Word → ℤ
scale text = signed (exponent text) (natural (unsigned (exponent text))) -ℤ pos (length (decimals text))

-- the zeros at the end of the digits go over to e
abbrev pub zeros : Word → ℕ
zeros text = suffix_len is_zero (digits text)

abbrev pub value_of : Word → Decimal
value_of text =
    if natural (digits text) == 0 then whole (pos 0)
    else record { m = signed text (natural (digits text) / 10 ^ zeros text); e = scale text +ℤ pos (zeros text) }

-- the magnitude is at least 10^k: from its first digit that isn't 0 on, the number has more than k digits before the point
abbrev pub reaches : ℕ → Word → Bool
reaches k text = nat_lt 0 (natural (digits text)) && int_lt (pos k) (pos (length (digits text) - prefix_len is_zero (digits text)) +ℤ scale text)

-- |m| < 10^24, e >= -30, |m * 10^e| < 10^36
abbrev pub is_in_range : Word → Bool
is_in_range text = nat_lt (unsigned_abs (value_of text).m) (10 ^ 24) && int_le (neg_ℤ (pos 30)) (value_of text).e && not (reaches 36 text)

-- the value of a number within the limits
abbrev pub number : Word → Option Decimal
number text = if is_number text && is_in_range text then Some (value_of text) else None

-- a bound is finite, or from 10^20 on infinite
abbrev pub limit_in : Word → Option Limit
limit_in text =
    if reaches 20 text then Some (if is_negative text then Minus else Plus)
    else if is_in_range text then Some (Finite (value_of text)) else None

abbrev pub limit : Word → Option Limit
limit text = if is_number text then limit_in text else None

abbrev pub finite : Option Limit → Option Decimal
finite None = None
finite (Some Plus) = None
finite (Some Minus) = None
finite (Some (Finite d)) = Some d

-- ---- what a reader carries

-- how many digits stand from the first that isn't 0 on
abbrev pub size : Word → ℕ
size digits = length digits - prefix_len is_zero digits

-- the digits before and after the point
abbrev pub digits_in : Word → Word
digits_in text = before_first is_point text ++ after_first is_point text

-- digits by their number without the zeros at their end, the count of these, and their size; that number is known up to 24 digits
pub record IsCounted (digits : Word) (rest tail extent : ℕ) : Type 0 where
  pub all : list_all is_digit digits ≡ true
  pub zeros : tail ≡ suffix_len is_zero digits
  pub size : extent ≡ size digits
  pub value : extent ≤ tail + 24 → rest * 10 ^ tail ≡ natural digits

-- an exponent is known up to 10^30: beyond it only the sign counts
abbrev pub near : ℕ → ℕ
near n = min n (10 ^ 30)

abbrev pub near_exponent : Word → ℤ
near_exponent text = signed text (near (natural (unsigned text)))

-- what follows the sign has no exponent, or a sign and digits behind the letter
abbrev pub has_exponent_form : Word → Bool
has_exponent_form text = not (list_any is_exponent_letter text) || is_digits (unsigned (after_first is_exponent_letter text))

-- a number by its sign, its digits and the power of ten that they are multiplied by
pub record IsForm (text : Word) (negative : Bool) (rest tail extent : ℕ) (power : ℤ) : Type 0 where
  pub number : is_number text ≡ true
  pub sign : negative ≡ is_negative text
  pub counted : IsCounted (digits text) rest tail extent
  pub scale : power ≡ near_exponent (exponent text) -ℤ pos (length (decimals text))
  pub short : length (digits text) < 2 ^ 64
