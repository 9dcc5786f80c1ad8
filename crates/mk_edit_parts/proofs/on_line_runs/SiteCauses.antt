-- The causes of an exchange of whole lines, up to those that the lines decide.
use Rattle.std.proofs.Common.{◌≡◌, refl, sym, ap, ◌∙◌, subst, ℕ, zero, suc, true, false, List, [], ◌∷◌, length, take, drop, Option, Some, None}
use Rattle.std.specs.Prelude.{Err}
use Rattle.mk_class.specs.ClassedLines.{classed_lines}
use Rattle.mk_edit_language.specs.Edits.{Site, AtPlace, BeforeRun, AfterRun, OfRun, OfRuleRun, ExchangeLines}
use Rattle.mk_edit_language.specs.Stretches.{Stretch}
use Rattle.mk_edit_language.specs.LineRuns.{is_block, is_in_run, runs, site_number, site_stretches, site_found}
use Rattle.mk_edit_language.specs.Causes.{where_holds}
use Rattle.mk_edit_language.specs.ArgumentCauses.{bad_argument, reserved, is_place}
use Rattle.mk_edit_language.specs.AddressCauses.{unread_prefix}
use Rattle.mk_edit_language.specs.ExchangeCauses.{has_no_stretch, has_several_stretches, shared_at_site, straddles_at_site, exchange_causes}
use Rattle.mk_edit_language.specs.Refusals.{first_cause, causes, spans}
use Rattle.mk_edit_language.proofs.on_edits.Accepted.{all_exchange_causes, exchange-causes, no-cause, two-passed}
use Rattle.mk_edit_language.specs.declared.refusal.Field.TheVariants as field
use Rattle.mk_edit_language.specs.declared.refusal.Refusal.{Refusal}
use Rattle.mk_edit_language.specs.declared.refusal.Refusal.TheVariants.{NoSuch, Ambiguous, Already}
use Rattle.mk_edit_parts.specs.LineRunsFound.{numbered}
use Rattle.mk_edit_parts.specs.SitesFound.{IsNotNew, IsNotOne, IsOfNew, causes_of_fields, causes_of_site, causes_of_lines}
use Rattle.mk_edit_parts.proofs.CauseLemmas.{passed, holds, refused}
use Rattle.mk_edit_parts.proofs.on_line_runs.RunsExchanged.{each_in_run}

-- ---- the first of some causes

none-taken : (n : ℕ) (cs : List (Option Refusal)) → first_cause (take n cs) ≡ None → first_cause cs ≡ first_cause (drop n cs)
none-taken zero cs h = refl
none-taken (suc n) [] h = refl
none-taken (suc n) (None ∷ cs) h = none-taken n cs h
none-taken (suc n) (Some r ∷ cs) h = absurd (cc)

one-taken : (n : ℕ) (cs : List (Option Refusal)) (r : Refusal) → first_cause (take n cs) ≡ Some r → first_cause cs ≡ Some r
one-taken zero cs r h = absurd (cc)
one-taken (suc n) [] r h = absurd (cc)
one-taken (suc n) (None ∷ cs) r h = one-taken n cs r h
one-taken (suc n) (Some q ∷ cs) r h = h

alone : (o : Option Refusal) → first_cause (o ∷ []) ≡ o
alone None = refl
alone (Some r) = refl

-- no cause up to those of the lines holds, so one of those is the first
pub causes-left : (t : List ℕ) (s : Site) (ts : List (List ℕ)) → first_cause (causes_of_site t s ts) ≡ None → first_cause (causes t (classed_lines t) (ExchangeLines s ts)) ≡ first_cause (causes_of_lines t s ts)
causes-left t s ts h = exchange-causes t (classed_lines t) s ts ∙ none-taken 9 (all_exchange_causes t (classed_lines t) s ts) h

-- or one of them does
pub site-refused : (t : List ℕ) (s : Site) (ts : List (List ℕ)) (r : Refusal) → first_cause (causes_of_site t s ts) ≡ Some r → spans t (ExchangeLines s ts) ≡ Err r
site-refused t s ts r h = refused t (ExchangeLines s ts) r (exchange-causes t (classed_lines t) s ts ∙ one-taken 9 (all_exchange_causes t (classed_lines t) s ts) r h)

-- ---- the causes of the fields and of the recipe prefix

pub field-refused : (t : List ℕ) (s : Site) (ts : List (List ℕ)) (r : Refusal) → bad_argument (ExchangeLines s ts) ≡ Some r → spans t (ExchangeLines s ts) ≡ Err r
field-refused t s ts r h = let e = ExchangeLines s ts in refused t e r (holds (bad_argument e) _ r h)

pub reserved-refused : (t : List ℕ) (s : Site) (ts : List (List ℕ)) (r : Refusal) → bad_argument (ExchangeLines s ts) ≡ None → reserved (ExchangeLines s ts) ≡ Some r → spans t (ExchangeLines s ts) ≡ Err r
reserved-refused t s ts r f h = let e = ExchangeLines s ts in refused t e r (passed (bad_argument e) _ (Some r) f (holds (reserved e) _ r h))

pub prefix-refused : (t : List ℕ) (s : Site) (ts : List (List ℕ)) (r : Refusal) → bad_argument (ExchangeLines s ts) ≡ None → reserved (ExchangeLines s ts) ≡ None → unread_prefix (classed_lines t) ≡ Some r
    → spans t (ExchangeLines s ts) ≡ Err r
prefix-refused t s ts r f n h =
    let e = ExchangeLines s ts in
    refused t e r (passed (bad_argument e) _ (Some r) f (passed (reserved e) _ (Some r) n (holds (unread_prefix (classed_lines t)) _ r h)))

pub fields-pass : (t : List ℕ) (s : Site) (ts : List (List ℕ)) → bad_argument (ExchangeLines s ts) ≡ None → reserved (ExchangeLines s ts) ≡ None → unread_prefix (classed_lines t) ≡ None → first_cause (causes_of_fields t s ts) ≡ None
fields-pass t s ts f n u =
    let e = ExchangeLines s ts in
    passed (bad_argument e) (reserved e ∷ unread_prefix (classed_lines t) ∷ []) None f (passed (reserved e) (unread_prefix (classed_lines t) ∷ []) None n (passed (unread_prefix (classed_lines t)) [] None u refl))

-- no field fails its test, so the new lines are a block
pub new-block : (t : List ℕ) (s : Site) (ts : List (List ℕ)) → IsOfNew s → first_cause (causes_of_fields t s ts) ≡ None → is_block ts ≡ true
new-block t (AtPlace p) ts i h = (two-passed field.Place field.Block (is_place p) (is_block ts) (no-cause (causes_of_fields t (AtPlace p) ts) h).0).1
new-block t (BeforeRun nth o) ts i h = (two-passed field.Place field.Block (is_block o) (is_block ts) (no-cause (causes_of_fields t (BeforeRun nth o) ts) h).0).1
new-block t (AfterRun nth o) ts i h = (two-passed field.Place field.Block (is_block o) (is_block ts) (no-cause (causes_of_fields t (AfterRun nth o) ts) h).0).1
new-block t (OfRun nth o) ts i h = absurd i
new-block t (OfRuleRun nth g) ts i h = absurd i

-- ---- the causes of what the site means

-- the causes before those of what the site means do not hold
after-fields : {a b c : Option Refusal} {rest : List (Option Refusal)} (cs : List (Option Refusal)) (o : Option Refusal) → cs ≡ a ∷ b ∷ c ∷ rest → first_cause (take 3 cs) ≡ None → first_cause rest ≡ o → first_cause cs ≡ o
after-fields {a = a} {b = b} {c = c} {rest = rest} cs o e x y =
    let n = no-cause (a ∷ b ∷ c ∷ []) (ap (λ z. first_cause (take 3 z)) (sym e) ∙ x) in
    ap first_cause e ∙ passed a _ o n.0 (passed b _ o n.1.0 (passed c rest o n.1.1.0 y))

-- Of the causes of what a site means, `n` says that there is none, `m` that there are several, and `e` that the rule is split after
-- which new lines go; `d` and `s` are those of lines that go, and `i` says that the new lines stand there already.

-- there is none
is-missing : {a b c n : Option Refusal} {rest : List (Option Refusal)} (cs : List (Option Refusal)) (r : Refusal) → cs ≡ a ∷ b ∷ c ∷ n ∷ rest → first_cause (take 3 cs) ≡ None → n ≡ Some r → first_cause cs ≡ Some r
is-missing {n = n} {rest = rest} cs r e x y = after-fields cs (Some r) e x (holds n rest r y)

-- those that go stand in the new lines
is-held : {a b c n d : Option Refusal} {rest : List (Option Refusal)} (cs : List (Option Refusal)) (r : Refusal) → cs ≡ a ∷ b ∷ c ∷ n ∷ d ∷ rest → first_cause (take 3 cs) ≡ None → n ≡ None → d ≡ Some r → first_cause cs ≡ Some r
is-held {n = n} {d = d} {rest = rest} cs r e x y z = after-fields cs (Some r) e x (passed n (d ∷ rest) (Some r) y (holds d rest r z))

-- there is none, or there are several
not-one : {a b c n d m : Option Refusal} {rest : List (Option Refusal)} (cs : List (Option Refusal)) (r : Refusal) → cs ≡ a ∷ b ∷ c ∷ n ∷ d ∷ m ∷ rest → first_cause (take 3 cs) ≡ None → d ≡ None
    → first_cause (n ∷ m ∷ []) ≡ Some r → first_cause cs ≡ Some r
not-one {n = n} {d = d} {m = m} {rest = rest} cs r e x y z = after-fields cs (Some r) e x (go n d m y z)
  where
    go : (n d m : Option Refusal) → d ≡ None → first_cause (n ∷ m ∷ []) ≡ Some r → first_cause (n ∷ d ∷ m ∷ rest) ≡ Some r
    go (Some q) d m y z = z
    go None d (Some q) y z = passed d (Some q ∷ rest) (Some r) y z
    go None d None y z = absurd (cc)

-- or the rule is split
not-new : {a b c n d m s e i : Option Refusal} (cs : List (Option Refusal)) (r : Refusal) → cs ≡ a ∷ b ∷ c ∷ n ∷ d ∷ m ∷ s ∷ e ∷ i ∷ [] → first_cause (take 3 cs) ≡ None → d ≡ None → s ≡ None
    → first_cause (n ∷ m ∷ e ∷ []) ≡ Some r → first_cause cs ≡ Some r
not-new {n = n} {d = d} {m = m} {s = s} {e = e} {i = i} cs r is x y z w = after-fields cs (Some r) is x (go n d m s e y z w)
  where
    go : (n d m s e : Option Refusal) → d ≡ None → s ≡ None → first_cause (n ∷ m ∷ e ∷ []) ≡ Some r → first_cause (n ∷ d ∷ m ∷ s ∷ e ∷ i ∷ []) ≡ Some r
    go (Some q) d m s e y z w = w
    go None d (Some q) s e y z w = passed d (Some q ∷ s ∷ e ∷ i ∷ []) (Some r) y w
    go None d None s (Some q) y z w = passed d (None ∷ s ∷ Some q ∷ i ∷ []) (Some r) y (passed s (Some q ∷ i ∷ []) (Some r) z w)
    go None d None s None y z w = absurd (cc)

-- one is meant: the causes that are left
one-meant : {a b c n d m s e i : Option Refusal} (cs : List (Option Refusal)) (o : Option Refusal) → cs ≡ a ∷ b ∷ c ∷ n ∷ d ∷ m ∷ s ∷ e ∷ i ∷ [] → first_cause (take 3 cs) ≡ None → n ≡ None → d ≡ None → m ≡ None
    → first_cause (s ∷ e ∷ i ∷ []) ≡ o → first_cause cs ≡ o
one-meant {n = n} {d = d} {m = m} {s = s} {e = e} {i = i} cs o is w x y z l =
    let last = s ∷ e ∷ i ∷ [] in
    after-fields cs o is w (passed n (d ∷ m ∷ last) o x (passed d (m ∷ last) o y (passed m last o z l)))

is-last : {a b c n d m s e i : Option Refusal} (cs : List (Option Refusal)) → cs ≡ a ∷ b ∷ c ∷ n ∷ d ∷ m ∷ s ∷ e ∷ i ∷ [] → first_cause (take 3 cs) ≡ None → n ≡ None → d ≡ None → m ≡ None → s ≡ None → e ≡ None
    → first_cause cs ≡ i
is-last {s = s} {e = e} {i = i} cs is w x y z u v = one-meant cs i is w x y z (passed s (e ∷ i ∷ []) i u (passed e (i ∷ []) i v (alone i)))

-- new lines go to no one place
pub not_one-new : (t : List ℕ) (s : Site) (ts : List (List ℕ)) (r : Refusal) → IsOfNew s → first_cause (causes_of_fields t s ts) ≡ None → IsNotNew (classed_lines t) s r
    → first_cause (causes_of_site t s ts) ≡ Some r
not_one-new t (AtPlace p) ts r i h n = not-new (causes_of_site t (AtPlace p) ts) r refl h refl refl n
not_one-new t (BeforeRun nth o) ts r i h n = not-new (causes_of_site t (BeforeRun nth o) ts) r refl h refl refl n
not_one-new t (AfterRun nth o) ts r i h n = not-new (causes_of_site t (AfterRun nth o) ts) r refl h refl refl n
not_one-new t (OfRun nth o) ts r i h n = absurd i
not_one-new t (OfRuleRun nth g) ts r i h n = absurd i

-- the causes of an exchange up to those that the lines decide, by what its site means
abbrev causes_where : (t : List ℕ) → Site → (ts : List (List ℕ)) → Option Stretch → List (Option Refusal)
causes_where t s ts o =
    take 9 (bad_argument (ExchangeLines s ts) ∷ reserved (ExchangeLines s ts) ∷ unread_prefix (classed_lines t) ∷ exchange_causes t (classed_lines t) s ts o)

-- they go to one
pub one-new : (t : List ℕ) (s : Site) (ts : List (List ℕ)) (x : Stretch) → IsOfNew s → first_cause (causes_of_fields t s ts) ≡ None
    → has_no_stretch (site_number s) (site_stretches (classed_lines t) s) ≡ false → has_several_stretches (site_number s) (site_stretches (classed_lines t) s) ≡ false
    → straddles_at_site (classed_lines t) s ≡ None → site_found (classed_lines t) s ≡ Some x → first_cause (causes_of_site t s ts) ≡ where_holds (is_in_run ts (classed_lines t) x) Already
one-new t s ts x i h n m e f =
    subst (λ o. first_cause (causes_where t s ts o) ≡ where_holds (is_in_run ts (classed_lines t) x) Already) (sym f)
    (go s i h (ap (λ b. where_holds b NoSuch) n) (ap (λ b. where_holds b (Ambiguous (length (site_stretches (classed_lines t) s)))) m) e)
  where
    go : (s : Site) → IsOfNew s → first_cause (causes_of_fields t s ts) ≡ None → where_holds (has_no_stretch (site_number s) (site_stretches (classed_lines t) s)) NoSuch ≡ None
        → where_holds (has_several_stretches (site_number s) (site_stretches (classed_lines t) s)) (Ambiguous (length (site_stretches (classed_lines t) s))) ≡ None
        → straddles_at_site (classed_lines t) s ≡ None → first_cause (causes_where t s ts (Some x)) ≡ where_holds (is_in_run ts (classed_lines t) x) Already
    go (AtPlace p) i h n m e = is-last (causes_where t (AtPlace p) ts (Some x)) refl h n refl m refl e
    go (BeforeRun nth o) i h n m e = is-last (causes_where t (BeforeRun nth o) ts (Some x)) refl h n refl m refl e
    go (AfterRun nth o) i h n m e = is-last (causes_where t (AfterRun nth o) ts (Some x)) refl h n refl m refl e
    go (OfRun nth o) i h n m e = absurd i
    go (OfRuleRun nth g) i h n m e = absurd i

-- ---- lines that go

pub missing-run : (nth : Option ℕ) (o ts : List (List ℕ)) (t : List ℕ) → first_cause (causes_of_fields t (OfRun nth o) ts) ≡ None → has_no_stretch nth (runs o (classed_lines t)) ≡ true
    → first_cause (causes_of_site t (OfRun nth o) ts) ≡ Some NoSuch
missing-run nth o ts t h n = is-missing (causes_of_site t (OfRun nth o) ts) NoSuch refl h (ap (λ b. where_holds b NoSuch) n)

pub exchanged-run : (nth : Option ℕ) (o ts : List (List ℕ)) (t : List ℕ) → first_cause (causes_of_fields t (OfRun nth o) ts) ≡ None → has_no_stretch nth (runs o (classed_lines t)) ≡ false
    → true ≡ each_in_run ts (classed_lines t) (numbered nth (runs o (classed_lines t))) → first_cause (causes_of_site t (OfRun nth o) ts) ≡ Some Already
exchanged-run None o ts t h n e = is-held (causes_of_site t (OfRun None o) ts) Already refl h (ap (λ b. where_holds b NoSuch) n) (ap (λ b. where_holds b Already) (sym e))
exchanged-run (Some k) o ts t h n e = is-held (causes_of_site t (OfRun (Some k) o) ts) Already refl h (ap (λ b. where_holds b NoSuch) n) (ap (λ b. where_holds b Already) (sym e))

pub not_one-run : (nth : Option ℕ) (o ts : List (List ℕ)) (t : List ℕ) (r : Refusal) → first_cause (causes_of_fields t (OfRun nth o) ts) ≡ None
    → false ≡ each_in_run ts (classed_lines t) (numbered nth (runs o (classed_lines t))) → IsNotOne nth (runs o (classed_lines t)) r → first_cause (causes_of_site t (OfRun nth o) ts) ≡ Some r
not_one-run None o ts t r h e n = not-one (causes_of_site t (OfRun None o) ts) r refl h (ap (λ b. where_holds b Already) (sym e)) n
not_one-run (Some k) o ts t r h e n = not-one (causes_of_site t (OfRun (Some k) o) ts) r refl h (ap (λ b. where_holds b Already) (sym e)) n

pub one-run : (nth : Option ℕ) (o ts : List (List ℕ)) (t : List ℕ) → first_cause (causes_of_fields t (OfRun nth o) ts) ≡ None
    → false ≡ each_in_run ts (classed_lines t) (numbered nth (runs o (classed_lines t))) → has_no_stretch nth (runs o (classed_lines t)) ≡ false → has_several_stretches nth (runs o (classed_lines t)) ≡ false
    → first_cause (causes_of_site t (OfRun nth o) ts) ≡ None
one-run None o ts t h e n m =
    one-meant (causes_of_site t (OfRun None o) ts) None refl h (ap (λ b. where_holds b NoSuch) n) (ap (λ b. where_holds b Already) (sym e)) (ap (λ b. where_holds b (Ambiguous (length (runs o (classed_lines t))))) m) refl
one-run (Some k) o ts t h e n m =
    one-meant (causes_of_site t (OfRun (Some k) o) ts) None refl h (ap (λ b. where_holds b NoSuch) n) (ap (λ b. where_holds b Already) (sym e)) (ap (λ b. where_holds b (Ambiguous (length (runs o (classed_lines t))))) m) refl

-- ---- a rule that goes

-- no one rule is meant
pub not_one-rule : (nth : Option ℕ) (g : List ℕ) (ts : List (List ℕ)) (t : List ℕ) (r : Refusal) → first_cause (causes_of_fields t (OfRuleRun nth g) ts) ≡ None → IsNotOne nth (site_stretches (classed_lines t) (OfRuleRun nth g)) r
    → first_cause (causes_of_site t (OfRuleRun nth g) ts) ≡ Some r
not_one-rule nth g ts t r h n = not-one (causes_of_site t (OfRuleRun nth g) ts) r refl h refl n

-- one is: the causes that are left
pub one-rule : (nth : Option ℕ) (g : List ℕ) (ts : List (List ℕ)) (t : List ℕ) (x : Stretch) (o : Option Refusal) → first_cause (causes_of_fields t (OfRuleRun nth g) ts) ≡ None
    → has_no_stretch nth (site_stretches (classed_lines t) (OfRuleRun nth g)) ≡ false → has_several_stretches nth (site_stretches (classed_lines t) (OfRuleRun nth g)) ≡ false
    → site_found (classed_lines t) (OfRuleRun nth g) ≡ Some x
    → first_cause (shared_at_site (classed_lines t) (OfRuleRun nth g) ∷ straddles_at_site (classed_lines t) (OfRuleRun nth g) ∷ where_holds (is_in_run ts (classed_lines t) x) Already ∷ []) ≡ o
    → first_cause (causes_of_site t (OfRuleRun nth g) ts) ≡ o
one-rule nth g ts t x o h n m f w =
    subst (λ z. first_cause (causes_where t (OfRuleRun nth g) ts z) ≡ o) (sym f)
    (one-meant (causes_where t (OfRuleRun nth g) ts (Some x)) o refl h (ap (λ b. where_holds b NoSuch) n) refl (ap (λ b. where_holds b (Ambiguous (length (site_stretches (classed_lines t) (OfRuleRun nth g))))) m) w)
