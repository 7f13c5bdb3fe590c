use Rattle.std.proofs.Common.{arith, ◌<◌, ◌∙◌, sym, ap, refl, length, get_or, true, false, Some, None, [], is_none}
use denote.Ref.{Bor}
use Rattle.cgl_num.specs.NumberText.{Word}
use Rattle.cgl_where.specs.PointValue.{value}
use Rattle.cgl_where.specs.Carried.{column_number}
use Rattle.cgl_where.proofs.KindLaws.{field_at, grown_is, kind_at, kind_count, kind_grown, kind_of, number_named}
use Rattle.cgl_where.proofs.carried.Carried.take_value.Goals as goal

abbrev empty : Bor Word
empty = record { ref_ptr = (0, 0); now = [] }

pub returns-in_default-clause-kind : goal.returns-in_default-clause-kind
returns-in_default-clause-kind c = λ r is. kind_count c.args.columns.now c.args.self.now c.args.fields.now r is (λ two. omega (arith, two))

pub returns-in_default-2-clause-kind : goal.returns-in_default-2-clause-kind
returns-in_default-2-clause-kind c = λ r is. kind_count c.args.columns.now c.args.self.now c.args.fields.now r is (λ two. omega (arith, two))

pub returns-in_default-find-clause-kind : goal.returns-in_default-find-clause-kind
returns-in_default-find-clause-kind c = λ r is.
    kind_of c.args.columns.now c.args.self.now c.args.fields.now r empty None _ is c.in-len2.len_at_least c.in-len2.len_below (sym c.find.ensures ∙ c.in_default-find.is) refl

pub returns-then-named_before-clause-kind : goal.returns-then-named_before-clause-kind
returns-then-named_before-clause-kind c = λ r is.
    let m = c.args.columns.now in
    let old = c.args.self.now in
    let fields = c.args.fields.now in
    let column = c.in-Some.column in
    let taken = value (get_or fields 1 empty).now in
    let within : column < length old.named.items = number_named m (get_or fields 0 empty).now old.named.items c.find.result column c.find.ensures c.in-Some.is c.requires.counted in
    kind_at old column c.index.result.now taken true within c.index.ensures (sym c.is_some-named_before.ensures ∙ c.if-named_before.true)
    ∙ kind_of m old fields r empty (Some column) taken is c.in-len2.len_at_least c.in-len2.len_below (sym c.find.ensures ∙ c.in-Some.is) refl

pub returns-in_default-value-clause-kind : goal.returns-in_default-value-clause-kind
returns-in_default-value-clause-kind c = λ r is.
    let m = c.args.columns.now in
    let old = c.args.self.now in
    let fields = c.args.fields.now in
    let column = c.in-Some.column in
    let within : column < length old.named.items = number_named m (get_or fields 0 empty).now old.named.items c.find.result column c.find.ensures c.in-Some.is c.requires.counted in
    kind_at old column c.index.result.now None false within c.index.ensures (sym c.is_some-named_before.ensures ∙ c.if-named_before.false)
    ∙ kind_of m old fields r empty (Some column) None is c.in-len2.len_at_least c.in-len2.len_below (sym c.find.ensures ∙ c.in-Some.is) (sym c.value.ensures ∙ c.in_default-value.is)

pub returns-in_default-grown_denominator-clause-kind : goal.returns-in_default-grown_denominator-clause-kind
returns-in_default-grown_denominator-clause-kind c = λ r is.
    let m = c.args.columns.now in
    let old = c.args.self.now in
    let fields = c.args.fields.now in
    let column = c.in-Some.column in
    let taken = c.in-Some-value.taken in
    let within : column < length old.named.items = number_named m (get_or fields 0 empty).now old.named.items c.find.result column c.find.ensures c.in-Some.is c.requires.counted in
    kind_grown old taken c.as_slice.result.now c.grown_denominator.result true c.as_slice.ensures.value c.grown_denominator.ensures (ap is_none c.in_default-grown_denominator.is)
    ∙ kind_at old column c.index.result.now (Some taken) false within c.index.ensures (sym c.is_some-named_before.ensures ∙ c.if-named_before.false)
    ∙ kind_of m old fields r empty (Some column) (Some taken) is c.in-len2.len_at_least c.in-len2.len_below (sym c.find.ensures ∙ c.in-Some.is) (sym c.value.ensures ∙ c.in-Some-value.is)

pub returns-clause-kind : goal.returns-clause-kind
returns-clause-kind c = λ r is.
    let m = c.args.columns.now in
    let old = c.args.self.now in
    let fields = c.args.fields.now in
    let column = c.in-Some.column in
    let taken = c.in-Some-value.taken in
    let within : column < length old.named.items = number_named m (get_or fields 0 empty).now old.named.items c.find.result column c.find.ensures c.in-Some.is c.requires.counted in
    kind_grown old taken c.as_slice.result.now c.grown_denominator.result false c.as_slice.ensures.value c.grown_denominator.ensures (ap is_none c.in-Some-grown_denominator.is)
    ∙ kind_at old column c.index.result.now (Some taken) false within c.index.ensures (sym c.is_some-named_before.ensures ∙ c.if-named_before.false)
    ∙ kind_of m old fields r empty (Some column) (Some taken) is c.in-len2.len_at_least c.in-len2.len_below (sym c.find.ensures ∙ c.in-Some.is) (sym c.value.ensures ∙ c.in-Some-value.is)

pub index-requires : goal.index-requires
index-requires c =
    let named = c.args.self.now.named in
    omega (arith, named.ok.0, number_named c.args.columns.now (get_or c.args.fields.now 0 empty).now named.items c.find.result c.in-Some.column c.find.ensures c.in-Some.is c.requires.counted)

pub index_mut-requires : goal.index_mut-requires
index_mut-requires c =
    let named = c.args.self.now.named in
    omega (arith, named.ok.0, number_named c.args.columns.now (get_or c.args.fields.now 0 empty).now named.items c.find.result c.in-Some.column c.find.ensures c.in-Some.is c.requires.counted)

pub returns-clause-taken : goal.returns-clause-taken
returns-clause-taken c = λ r is none.
    let fields = c.args.fields.now in
    record {
      column = c.in-Some.column;
      taken = c.in-Some-value.taken;
      is_column = ap (column_number c.args.columns.now) (field_at fields r 0 empty is (omega arith)) ∙ sym c.find.ensures ∙ c.in-Some.is;
      is_value = ap value (field_at fields r 1 empty is (omega arith)) ∙ sym c.value.ensures ∙ c.in-Some-value.is;
      named_are = refl;
      values_are = c.in-Ok.ensures.items;
      common = grown_is c.as_slice.result.now c.args.self.now.denominator c.in-Some-grown_denominator.denominator c.in-Some-value.taken c.grown_denominator.result c.grown_denominator.ensures c.in-Some-grown_denominator.is;
    }
