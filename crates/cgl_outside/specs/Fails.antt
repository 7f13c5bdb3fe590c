-- The faults that a test lists.
use Rattle.std.specs.Prelude.{◌≡◌, ℕ, List, Bool, true, false, ◌&&◌, nat_eq, Option, refl, zero, suc}
use Rattle.std.proofs.Common.{ap}
use Rattle.std.specs.List.{find}
use Rattle.std.specs.Option.{option_map}
use Rattle.std.specs.Coded.{Coded, code_by, coded×, coded_ℕ}
use Rattle.cgl_outside.specs.declared.fail.Call.{Call}
use Rattle.cgl_outside.specs.declared.fail.Call.TheVariants.{Read, Create, Append}
use Rattle.cgl_outside.specs.declared.fail.Fail.{Fail}

abbrev pub same_call : Call → Call → Bool
same_call Read Read = true
same_call Create Create = true
same_call Append Append = true
same_call _ _ = false

-- an entry for the nth call of this kind
abbrev pub is_for : Call → ℕ → Fail → Bool
is_for call nth fail = same_call fail.call call && nat_eq fail.nth nth

-- how many bytes the first entry for the nth call of this kind keeps, where there is one
abbrev pub listed_keep : List Fail → Call → ℕ → Option ℕ
listed_keep fails call nth = option_map (λ (fail : Fail). fail.keep) (find (is_for call nth) fails)

abbrev pub call_number : Call → ℕ
call_number Read = 0
call_number Create = 1
call_number Append = 2

abbrev pub call_of_number : ℕ → Call
call_of_number zero = Read
call_of_number (suc zero) = Create
call_of_number (suc (suc n)) = Append

abbrev pub call_again : (call : Call) → call_of_number (call_number call) ≡ call
call_again Read = refl
call_again Create = refl
call_again Append = refl

abbrev pub fail_code : Coded Fail
fail_code =
    code_by (ℕ × (ℕ × ℕ)) (coded× coded_ℕ (coded× coded_ℕ coded_ℕ))
    (λ (fail : Fail). (call_number fail.call, (fail.nth, fail.keep)))
    (λ p. record { call = call_of_number p.0; nth = p.1.0; keep = p.1.1 })
    (λ fail. ap (λ call. record { call = call; nth = fail.nth; keep = fail.keep }) (call_again fail.call))
