use Rattle.std.proofs.Common.{◌≡◌, Some, sym, ap, ◌∙◌, refl, subst, option_map}
use Rattle.std.specs.Map.{lookup}
use Rattle.std.specs.Option.{UnwrapsOrElse}
use Rattle.std.proofs.lemmas.Bool.{cond-true}
use Rattle.indexmap.specs.Layout.{set_value_at}
use Rattle.indexmap.specs.IndexMap.{insert_entry}
use Rattle.ref_parts.specs.FiniteMap.{Puts}
use Rattle.ref_parts.specs.inner.Slots.{IsAt, entries_of}
use Rattle.ref_parts.proofs.MapLaws.{Puts-insert}
use Rattle.ref_parts.proofs.LentLaws.{IsAt_within, IsAt_found, IsAt_got, put_and_written, entries_written, form_written}
use Rattle.ref_parts.proofs.small_map.SmallMap.get_or_insert_default.Goals as goal

pub invariant_of-self-lent : goal.invariant_of-self-lent
invariant_of-self-lent g c = λ w.
    let eq = g.K.PartialEq.eq in
    let form = c.place_or_default.new.form in
    form_written eq form c.in_ok-place.place w c.place_or_default.ensures.kept (IsAt_within eq c.args.key (entries_of form) c.in_ok-place.place c.in_ok-place.ensures.place)

pub returns : goal.returns
returns g c =
    let eq = g.K.PartialEq.eq in
    let laws = g.met.K.Eq.laws in
    let key = c.args.key in
    let form = c.place_or_default.new.form in
    let es = entries_of form in
    let place = c.in_ok-place.place in
    let at = c.in_ok-place.ensures.place in
    let ok = c.in_ok-place.ensures.ok in
    let within = IsAt_within eq key es place at in
    let old = entries_of c.self.inside.form in
    let puts = Puts-insert laws old key ok.0 in
    let own = laws.refl key in
    let written : (w : g.row.V.Denot) → set_value_at es place w ≡ insert_entry eq old key w =
    λ w. ap (λ xs. set_value_at xs place w) ok.2 ∙ put_and_written eq key own old place ok.0 w (subst (λ xs. IsAt eq key xs place) ok.2 at) in
    let got : Some ok.0 ≡ Some c.value_at.result.now =
    sym (ap (lookup (eq key)) ok.2 ∙ puts.found key ∙ cond-true _ _ _ own) ∙ IsAt_found eq key es place at ∙ sym (ap (option_map (λ e. e.1)) (IsAt_got eq key es place at)) ∙ c.value_at.ensures.value in
    let same : ok.0 ≡ c.value_at.result.now = cc in (
      (
        refl,
        λ w _. subst (λ n. Puts eq c.args.self.now n key w) (sym (entries_written eq form place w c.place_or_default.ensures.kept within ∙ written w))
            (subst (λ was. Puts eq was (insert_entry eq old key w) key w) c.self.view_is (Puts-insert laws old key w)),
        tt,
      ),
      record {
        writes_back = tt;
        there = λ _. refl;
        inline = λ _. refl;
        value = subst (UnwrapsOrElse (lookup (eq key) c.args.self.now) g.V.Default.is_default) same (subst (λ old. UnwrapsOrElse (lookup (eq key) old) g.V.Default.is_default ok.0) c.self.view_is ok.1);
      },
    )
