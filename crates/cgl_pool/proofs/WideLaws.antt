-- The keys of the answers that are too wide.
use Rattle.std.proofs.Common.{◌≡◌, List, Some, refl, ap, subst}
use Rattle.std.specs.Prelude.{Option}
use Rattle.std.specs.List.Sorted.{IsStrictlySortedBy}
use Rattle.cgl_derive.specs.declared.answer.Answer.{Answer}
use Rattle.cgl_derive.specs.declared.answer.Answer.TheVariants.{Nothing, Cut, Wide}
use Rattle.cgl_gen.specs.declared.stamped.Stamped.{Stamped}
use Rattle.cgl_pool.specs.Listed.{AreWideKeys, IsIn, Key, key_cmp, sorted_by, wide_by, wides, wides_among}
use Rattle.cgl_pool.specs.Laws.{SameAnswers}
use Rattle.cgl_pool.proofs.OrderLaws.{key_order, key_same}
use Rattle.cgl_pool.proofs.MemberLaws.{filter_map_in, in_filter_map}
use Rattle.cgl_pool.proofs.SortedLaws.{in_sorted, rises_sorted, sorted_in, unique}

abbrev wide_of : Stamped → Option Key
wide_of s = wide_by s.key s.answer

wide_says : (key : Key) (answer : Answer) (k : Key) → wide_by key answer ≡ Some k → (key ≡ k) × (answer ≡ Wide)
wide_says key Nothing k e = cc
wide_says key (Cut c) k e = cc
wide_says key Wide k e = (cc, refl)

abbrev itself : Key → Key
itself key = key

from_wide : (given : List Stamped) (key : Key) → IsIn key (wides_among given) → (s : Stamped) × IsIn s given × (s.key ≡ key) × (s.answer ≡ Wide)
from_wide given key is =
    let from = in_filter_map wide_of given key is in
    let said = wide_says from.0.key from.0.answer key from.2 in
    (from.0, from.1, said.0, said.1)

-- a list that rises, with the keys of the wide answers as its members
pub are_wide_keys : (given : List Stamped) (keys : List Key) → IsStrictlySortedBy key_cmp keys → ((k : Key) → IsIn k keys → IsIn k (wides_among given)) → ((k : Key) → IsIn k (wides_among given) → IsIn k keys) → AreWideKeys given keys
are_wide_keys given keys rises to from = record {
  rises = rises;
  each = (λ s is wide. from s.key (filter_map_in wide_of given s s.key is (ap (wide_by s.key) wide)));
  only = (λ key is. from_wide given key (to key is));
}

pub wide_keys_are : (given : List Stamped) → AreWideKeys given (wides given)
unfolding wides
wide_keys_are given =
    let keys = wides_among given in
    are_wide_keys given (sorted_by key_cmp keys) (rises_sorted key_cmp key_order itself keys) (λ k is. in_sorted key_cmp key_order itself k keys is) (λ k is. sorted_in key_cmp key_order itself keys (λ a b is at same. key_same a b same) k is)

members_go : (given : List Stamped) (keys others : List Key) → AreWideKeys given keys → AreWideKeys given others → (key : Key) → IsIn key keys → IsIn key others
members_go given keys others are others_are key is =
    let from = are.only key is in
    subst (λ (k : Key). IsIn k others) from.2 (others_are.each from.0 from.1 from.3)

pub one_list : (given : List Stamped) (keys : List Key) → AreWideKeys given keys → keys ≡ wides given
one_list given keys are =
    let all = wide_keys_are given in
    unique key_cmp key_order (itself) keys (wides given) are.rises all.rises (members_go given keys (wides given) are all) (members_go given (wides given) keys all are)

pub same_wides : (a b : List Stamped) → SameAnswers a b → wides a ≡ wides b
same_wides a b same =
    let are = wide_keys_are a in
    let only : (key : Key) → IsIn key (wides a) → (s : Stamped) × IsIn s b × (s.key ≡ key) × (s.answer ≡ Wide) = λ key is. let from = are.only key is in (from.0, same.to from.0 from.1, from.2, from.3) in
    one_list b (wides a) (record { rises = are.rises; each = (λ s is wide. are.each s (same.from s is) wide); only = only })
