-- The readers of modules read what their productions have, and what that says of the public answer.
use Rattle.std.proofs.Common.{◌≡◌, ◌≢◌, ℕ, zero, suc, ◌+◌, ◌-◌, ◌<◌, ◌≤◌, inl, inr, Bool, true, false, nat_lt, ltb-true, ltb-false, le-ltb, lt-ltb, List, [], ◌∷◌, length, sym, ap, ◌∙◌, subst, refl, arith}
use Rattle.std.proofs.lemmas.Option.{slice_get_cases, slice_get_within}
use Rattle.v_lexer.specs.Lexeme.{Lexeme}
use Rattle.v_lexer.specs.declared.types.terminal.Terminal.TheVariants as marks
use Rattle.v_tree.specs.declared.fault.ParseErr.{ParseErr}
use Rattle.v_tree.specs.Faults.{Begins}
use Rattle.v_tree.specs.Reading.{Read, ◌>>=◌}
use Rattle.v_tree.proofs.BindLemmas.{good}
use Rattle.v_tree.proofs.CompleteLemmas.{then_of, else_of}
use Rattle.v_tree.proofs.PlaceLemmas.{marked_inside}
use Rattle.v_tree.proofs.SteadyLemmas.{reach_more, begins_less, not_by}
use Rattle.v_syntax.specs.ModuleTree.{PlainModule}
use Rattle.v_parts.specs.Reading.{identifier_at}
use Rattle.v_parts.specs.Productions.{IsIdentifier}
use Rattle.v_declarations.specs.Headers.{AreHeaderParameters, IsHeaderPorts}
use Rattle.v_declarations.specs.HeaderReading.{header_parameters_at, header_ports_at}
use Rattle.v_parser.specs.Items.{AreItemsUpTo, IsItem}
use Rattle.v_parser.specs.ItemReading.{items_at, item_at}
use Rattle.v_parser.specs.Modules.{IsModule, AreModules, ShowsNoSource}
use Rattle.v_parser.specs.ModuleReading.{module_items_at, module_at, modules_at, source_at}
use Rattle.v_parts.specs.Answers.{ShowsFault}
use Rattle.v_parts.proofs.Laws.{Start, Law, law_as, law_bind, law_expect, law_found, law_node, law_same, law_there}
use Rattle.v_parts.proofs.TakingLaws.{TakingFrom, taking_expect}
use Rattle.v_parts.proofs.NameLaws.{law_identifier}
use Rattle.v_declarations.proofs.HeaderLaws.{law_header_parameters, law_header_ports}
use Rattle.v_parser.proofs.ItemLaws.{law_items, taking_item}
use Rattle.v_parts.proofs.AnswerLemmas.{LawAt}

pub taking_module : (base : ℕ) (t u : List Lexeme) (d : ℕ) → TakingFrom base t u d (module_at t d) (module_at u d) (IsModule t d)
unfolding module_at module_items_at
taking_module base t u d a st =
    taking_expect base t u d a st marks.Module refl _ _ _ (λ is st2.
    law_bind base t u d (a + 1) st2 (identifier_at t (a + 1)) (identifier_at u (a + 1)) _ _ (λ x b. IsIdentifier t x (a + 1) b) _ (law_identifier base t u d (a + 1) st2) (λ x m q ge st3.
    law_bind base t u d m st3 (header_parameters_at t d m) (header_parameters_at u d m) _ _ (λ x b. AreHeaderParameters t d x m b) _ (law_header_parameters base t u d m st3) (λ ps n q2 ge2 st4.
    law_bind base t u d n st4 (header_ports_at t d n) (header_ports_at u d n) _ _ (λ x b. IsHeaderPorts t d x n b) _ (law_header_ports base t u d n st4) (λ qs k q3 ge3 st5.
    law_expect base t u d k st5 marks.Semicolon refl _ _ _ (λ one st6.
    law_bind base t u d (k + 1) st6 (items_at t marks.Endmodule (item_at t d) (k + 1)) (items_at u marks.Endmodule (item_at u d) (k + 1)) _ _ (λ xs b. AreItemsUpTo t marks.Endmodule (IsItem t d) xs (k + 1) b) _
    (law_items base t u d marks.Endmodule refl (item_at t d) (item_at u d) (IsItem t d) (taking_item base t u d) (k + 1) (omega arith) st6) (λ xs l q4 ge4 st7.
    law_node base t u d a l st7 (omega (arith, ge, ge2, ge3, ge4)) (λ z. record { site = z; name = x; parameters = ps; ports = qs; items = xs })))))))

-- modules up to the end of the tokens, with the place where they end
abbrev ToEnd : List Lexeme → ℕ → List PlainModule → ℕ → Type 0
ToEnd t a xs b = AreModules t xs a × (b ≡ length t)

modules_none : (t : List Lexeme) (n a : ℕ) → length t ≤ a → modules_at t n a ≡ good ([], a)
unfolding modules_at
modules_none t zero a past = refl
modules_none t (suc n) a past = else_of _ _ _ _ (le-ltb a (length t) past) refl

modules_one : (t : List Lexeme) (n a : ℕ) → n ≢ 0 → a < length t → modules_at t n a ≡ (module_at t 256 a >>= λ x. modules_at t (n - 1) x.1 >>= λ xs. good (x.0 ∷ xs.0, xs.1))
unfolding modules_at
modules_one t zero a some here = absurd (some refl)
modules_one t (suc n) a some here =
    let e : suc n - 1 ≡ n = omega arith in
    then_of _ _ _ _ (lt-ltb a (length t) here) (ap (λ k. module_at t 256 a >>= λ x. modules_at t k x.1 >>= λ xs. good (x.0 ∷ xs.0, xs.1)) (sym e))

-- others that begin so up to a token have that token
begins_past : (t u : List Lexeme) (a n : ℕ) → a < length t → a ≤ n → Begins t u n → a < length u
begins_past t u a n h k b =
    elim (slice_get_cases t a).1 [
      | inl (x, inside, e, d) ↦ slice_get_within u a x (b a k ∙ e)
      | inr (past, e) ↦ absurd (omega (arith, past, h))
    ]

-- others that begin so up to the end have no more tokens
ends_alike : (t u : List Lexeme) → Begins t u (length t) → length u ≤ length t
ends_alike t u b =
    elim (slice_get_cases u (length t)).1 [
      | inl (x, inside, e, d) ↦ let r = slice_get_within t (length t) x (sym (b (length t) (omega arith)) ∙ e) in absurd (omega (arith, r))
      | inr (past, e) ↦ past
    ]

ended : (t : List Lexeme) (a : ℕ) → length t ≤ a → (ys : List PlainModule) (b : ℕ) → ToEnd t a ys b → (ys ≡ []) × (b ≡ a)
ended t a past [] b (here, e) = (refl, e ∙ sym here)
ended t a past (x ∷ xs) b ((m, q, r), e) =
    let inside = marked_inside t a (λ gone. not_by marks.Module marks.Nothing refl (sym q.0 ∙ gone)) in
    absurd (omega (arith, past, inside))

went_on : (t : List Lexeme) (a : ℕ) → a < length t → (ys : List PlainModule) (b : ℕ) → ToEnd t a ys b
    → (x : PlainModule) × (m : ℕ) × IsModule t 256 x a m × ((xs : List PlainModule) × (n : ℕ) × ToEnd t m xs n × ((ys ≡ x ∷ xs) × (b ≡ n)))
went_on t a inside [] b (here, e) = absurd (omega (arith, inside, here))
went_on t a inside (x ∷ xs) b ((m, q, r), e) = (x, m, q, (xs, length t, (r, refl), (refl, e)))

law_modules_end : (base : ℕ) (t u : List Lexeme) (n k a : ℕ) → length t ≤ a → Start base t 256 a → Law base t u a (modules_at t n a) (modules_at u k a) (ToEnd t a)
law_modules_end base t u n k a past st =
    let nothing : List PlainModule = [] in
    let found : Law base t u a (good (nothing, a)) (good (nothing, a)) (λ y b. (y ≡ nothing) × (b ≡ a)) = law_found base t u a a nothing nothing (omega arith) st.inside (λ b. refl) in
    let at_end : a ≡ length t = (let h = st.inside in omega (arith, past, h)) in
    law_same base t u a (modules_at t n a) (good ([], a)) _ _ (modules_none t n a past) (law_there base t u a (good ([], a)) (modules_at u k a) (good ([], a)) _
    (law_as base t u a _ _ _ _ found (λ ys b (e, f). subst (λ v. ToEnd t a v b) (sym e) (at_end, f ∙ at_end)) (ended t a past))
    (λ b. modules_none u k a (let less = ends_alike t u (begins_less t u (length t) a past b) in omega (arith, less, past))))

abbrev ModulesClaim : ℕ → List Lexeme → List Lexeme → ℕ → Type 0
ModulesClaim base t u n = (k a : ℕ) → length t ≤ n + a → length u ≤ k + a → Start base t 256 a → Law base t u a (modules_at t n a) (modules_at u k a) (ToEnd t a)

law_modules_one : (base : ℕ) (t u : List Lexeme) (n : ℕ) → ModulesClaim base t u n → (k a : ℕ) → length t ≤ suc n + a → length u ≤ k + a → Start base t 256 a → a < length t
    → Law base t u a (modules_at t (suc n) a) (modules_at u k a) (ToEnd t a)
law_modules_one base t u n again k a enough also st inside =
    let o : Read (List PlainModule) = module_at t 256 a >>= λ x. modules_at t n x.1 >>= λ xs. good (x.0 ∷ xs.0, xs.1) in
    let p : Read (List PlainModule) = module_at u 256 a >>= λ x. modules_at u (k - 1) x.1 >>= λ xs. good (x.0 ∷ xs.0, xs.1) in
    let first = taking_module base t u 256 a st in
    let turn : Law base t u a o p (λ ys b. (x : PlainModule) × (m : ℕ) × IsModule t 256 x a m × ((xs : List PlainModule) × (c : ℕ) × ToEnd t m xs c × ((ys ≡ x ∷ xs) × (b ≡ c)))) =
    law_bind base t u 256 a st (module_at t 256 a) (module_at u 256 a) _ _ (λ x b. IsModule t 256 x a b) _ first.law (λ x m w ge there.
    let past = first.takes x m w in
    law_bind base t u 256 m there (modules_at t n m) (modules_at u (k - 1) m) _ _ (ToEnd t m) _ (again (k - 1) m (omega (arith, enough, past)) (omega (arith, also, past)) there) (λ xs c w2 ge2 end.
    law_found base t u c c (x ∷ xs) (x ∷ xs) (omega arith) end.inside (λ b. refl))) in
    let here : Law base t u a o p (ToEnd t a) = law_as base t u a o p _ _ turn
    (λ ys b (x, m, w, (xs, c, (l, end), (e, f))). subst (λ v. ToEnd t a v b) (sym e) ((m, w, l), f ∙ end)) (went_on t a inside) in
    let less : suc n - 1 ≡ n = omega arith in
    let mine : modules_at t (suc n) a ≡ o = modules_one t (suc n) a (omega arith) inside ∙ ap (λ v. module_at t 256 a >>= λ x. modules_at t v x.1 >>= λ xs. good (x.0 ∷ xs.0, xs.1)) less in
    law_same base t u a (modules_at t (suc n) a) o _ _ mine (law_there base t u a o (modules_at u k a) p _ here (λ b.
    let there = begins_past t u a _ inside (reach_more t base a o here.steady.ahead) b in
    modules_one u k a (omega (arith, there, also)) there))

by_place : (base : ℕ) (t u : List Lexeme) (n : ℕ) → ModulesClaim base t u n → (k a : ℕ) → length t ≤ suc n + a → length u ≤ k + a → Start base t 256 a → (b : Bool) → nat_lt a (length t) ≡ b
    → Law base t u a (modules_at t (suc n) a) (modules_at u k a) (ToEnd t a)
by_place base t u n again k a enough also st true e = law_modules_one base t u n again k a enough also st (ltb-true a (length t) e)
by_place base t u n again k a enough also st false e = law_modules_end base t u (suc n) k a (ltb-false a (length t) e) st

-- module*, up to the end of the tokens
law_modules : (base : ℕ) (t u : List Lexeme) (n : ℕ) → ModulesClaim base t u n
law_modules base t u zero k a enough also st = law_modules_end base t u zero k a (omega (arith, enough)) st
law_modules base t u (suc n) k a enough also st = by_place base t u n (law_modules base t u n) k a enough also st (nat_lt a (length t)) refl

-- modules up to the end, from any place on
abbrev pub AreModulesTo : List Lexeme → List PlainModule → ℕ → ℕ → Type 0
AreModulesTo t xs a b = ToEnd t a xs b

pub source_law : LawAt source_at AreModulesTo
unfolding source_at
source_law t u a h = law_modules a t u (length t) (length u) a (omega arith) (omega arith) record { inside = h; deep = omega arith; far = omega arith }

pub shows_no_source : (t : List Lexeme) (e : ParseErr) → ShowsFault AreModulesTo t 0 e → ShowsNoSource t e
shows_no_source t e s =
    let r = s.refuses in
    record {
      fault = s.fault;
      shown = s.shown;
      refuses = record { after = r.after; inside = r.inside; no_tree = λ others b x c q. r.no_tree others b x (length others) (q, refl); refused = r.refused; deep = r.deep };
    }
