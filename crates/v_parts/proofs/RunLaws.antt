-- What the readers of parts up to a closing token read.
use Rattle.std.proofs.Common.{◌≡◌, ◌≢◌, ℕ, zero, suc, ◌+◌, ◌-◌, ◌<◌, ◌≤◌, Bool, true, false, List, [], ◌∷◌, length, sym, ap, ◌∙◌, subst, refl, arith}
use Rattle.v_lexer.specs.Lexeme.{Lexeme}
use Rattle.v_lexer.specs.declared.types.terminal.Terminal.{Terminal}
use Rattle.v_lexer.specs.declared.types.terminal.Terminal.TheVariants as marks
use Rattle.v_tree.specs.Marks.{mark_at, same}
use Rattle.v_tree.specs.Faults.{no_place}
use Rattle.v_tree.specs.Reading.{Read, ◌>>=◌}
use Rattle.v_tree.proofs.MarkLemmas.{same_true, same_of}
use Rattle.v_tree.proofs.PlaceLemmas.{marked_inside}
use Rattle.v_tree.proofs.BindLemmas.{good, bad}
use Rattle.v_tree.proofs.SoundLemmas.{not_mark}
use Rattle.v_tree.proofs.CompleteLemmas.{then_of, else_of, apart_of}
use Rattle.v_tree.proofs.SteadyLemmas.{reach_more, not_by, mark_kept}
use Rattle.v_parts.specs.Reading.{run_at}
use Rattle.v_parts.specs.Productions.{AreRun}
use Rattle.v_parts.proofs.Laws.{Start, Law, law_as, law_bind, law_found, law_same, law_there, begins_inside}
use Rattle.v_parts.proofs.TakingLaws.{TakingFrom}

-- x*, up to a token of the mark `last`
run_end : {S A : Type 0} (t : List Lexeme) (last : Terminal) (part : S → ℕ → Read A) (next : S → A → S) (n : ℕ) (s : S) (a : ℕ) → n ≢ 0 → mark_at t a ≡ last → run_at t last part next n s a ≡ good ([], a + 1)
unfolding run_at
run_end t last part next zero s a some is = absurd (some refl)
run_end t last part next (suc n) s a some is = then_of _ _ _ _ (same_of _ _ is) refl

run_one : {S A : Type 0} (t : List Lexeme) (last : Terminal) (part : S → ℕ → Read A) (next : S → A → S) (n : ℕ) (s : S) (a : ℕ) → n ≢ 0 → mark_at t a ≢ last
    → run_at t last part next n s a ≡ (part s a >>= λ x. run_at t last part next (n - 1) (next s x.0) x.1 >>= λ xs. good (x.0 ∷ xs.0, xs.1))
unfolding run_at
run_one t last part next zero s a some other = absurd (some refl)
run_one t last part next (suc n) s a some other =
    let e : suc n - 1 ≡ n = omega arith in
    else_of _ _ _ _ (apart_of _ _ other) (ap (λ k. part s a >>= λ x. run_at t last part next k (next s x.0) x.1 >>= λ xs. good (x.0 ∷ xs.0, xs.1)) (sym e))

run_none : {S A : Type 0} (t : List Lexeme) (last : Terminal) (part : S → ℕ → Read A) (next : S → A → S) (s : S) (a : ℕ) → run_at t last part next 0 s a ≡ bad (no_place t a)
unfolding run_at
run_none t last part next s a = refl

abbrev RunClaim : {S A : Type 0} → ℕ → List Lexeme → List Lexeme → ℕ → Terminal → (S → ℕ → Read A) → (S → ℕ → Read A) → (S → A → S) → (S → A → ℕ → ℕ → Type 0) → ℕ → Type 0
RunClaim {S} {A} base t u d last r q next P n = (k : ℕ) (s : S) (a : ℕ) → length t < n + a → length u < k + a → Start base t d a
    → Law base t u a (run_at t last r next n s a) (run_at u last q next k s a) (λ xs b. AreRun t last P next s xs a b)

run_ends_as : {S A : Type 0} (t : List Lexeme) (last : Terminal) (P : S → A → ℕ → ℕ → Type 0) (next : S → A → S) (s : S) (a : ℕ) → mark_at t a ≡ last → (ys : List A) (b : ℕ) → AreRun t last P next s ys a b → (ys ≡ []) × (b ≡ a + 1)
run_ends_as t last P next s a is [] b (same_mark, e) = (refl, e)
run_ends_as t last P next s a is (x ∷ xs) b (m, other, p, r) = absurd (other is)

run_goes_as : {S A : Type 0} (t : List Lexeme) (last : Terminal) (P : S → A → ℕ → ℕ → Type 0) (next : S → A → S) (s : S) (a : ℕ) → mark_at t a ≢ last → (ys : List A) (b : ℕ) → AreRun t last P next s ys a b
    → (x : A) × (m : ℕ) × P s x a m × ((xs : List A) × (n : ℕ) × AreRun t last P next (next s x) xs m n × ((ys ≡ x ∷ xs) × (b ≡ n)))
run_goes_as t last P next s a other [] b (is, e) = absurd (other is)
run_goes_as t last P next s a other (x ∷ xs) b (m, h, p, r) = (x, m, p, (xs, b, r, (refl, refl)))

law_run_end : {S A : Type 0} (base : ℕ) (t u : List Lexeme) (d : ℕ) (last : Terminal) → same last marks.Nothing ≡ false → (r q : S → ℕ → Read A) (next : S → A → S) (P : S → A → ℕ → ℕ → Type 0) (n k : ℕ) (s : S) (a : ℕ)
    → length t < n + a → length u < k + a → Start base t d a → mark_at t a ≡ last
    → Law base t u a (run_at t last r next n s a) (run_at u last q next k s a) (λ xs b. AreRun t last P next s xs a b)
law_run_end {S} {A} base t u d last some r q next P n k s a enough also st is =
    let here = marked_inside t a (λ gone. not_by last marks.Nothing some (sym is ∙ gone)) in
    let found : Law base t u a (good {A = List A × ℕ} ([], a + 1)) (good ([], a + 1)) (λ y b. (y ≡ []) × (b ≡ a + 1)) = law_found base t u a (a + 1) [] [] (omega arith) (omega (arith, here)) (λ b. refl) in
    law_same base t u a (run_at t last r next n s a) (good ([], a + 1)) _ _ (run_end t last r next n s a (omega (arith, here, enough)) is) (law_there base t u a (good ([], a + 1)) (run_at u last q next k s a) (good ([], a + 1)) _
    (law_as base t u a _ _ _ _ found (λ ys b (e, f). subst (λ v. AreRun t last P next s v a b) (sym e) (is, f)) (run_ends_as t last P next s a is))
    (λ b.
    let there : mark_at u a ≡ last = mark_kept t u (a + 1) a b (omega arith) ∙ is in
    let in_it = marked_inside u a (λ gone. not_by last marks.Nothing some (sym there ∙ gone)) in
    run_end u last q next k s a (omega (arith, in_it, also)) there))

law_run_one : {S A : Type 0} (base : ℕ) (t u : List Lexeme) (d : ℕ) (last : Terminal) (r q : S → ℕ → Read A) (next : S → A → S) (P : S → A → ℕ → ℕ → Type 0) → ((s : S) → TakingFrom base t u d (r s) (q s) (P s)) → (n : ℕ)
    → RunClaim base t u d last r q next P n → (k : ℕ) (s : S) (a : ℕ) → length t < suc n + a → length u < k + a → Start base t d a → mark_at t a ≢ last
    → Law base t u a (run_at t last r next (suc n) s a) (run_at u last q next k s a) (λ xs b. AreRun t last P next s xs a b)
law_run_one {S} {A} base t u d last r q next P items n again k s a enough also st other =
    let o : Read (List A) = r s a >>= λ x. run_at t last r next n (next s x.0) x.1 >>= λ xs. good (x.0 ∷ xs.0, xs.1) in
    let p : Read (List A) = q s a >>= λ x. run_at u last q next (k - 1) (next s x.0) x.1 >>= λ xs. good (x.0 ∷ xs.0, xs.1) in
    let item = items s a st in
    let turn : Law base t u a o p (λ ys b. (x : A) × (m : ℕ) × P s x a m × ((xs : List A) × (c : ℕ) × AreRun t last P next (next s x) xs m c × ((ys ≡ x ∷ xs) × (b ≡ c)))) =
    law_bind base t u d a st (r s a) (q s a) _ _ (λ x b. P s x a b) _ item.law (λ x m w ge there.
    let past = item.takes x m w in
    law_bind base t u d m there (run_at t last r next n (next s x) m) (run_at u last q next (k - 1) (next s x) m) _ _ (λ xs b. AreRun t last P next (next s x) xs m b) _
    (again (k - 1) (next s x) m (omega (arith, enough, past)) (omega (arith, also, past)) there) (λ xs c w2 ge2 end.
    law_found base t u c c (x ∷ xs) (x ∷ xs) (omega arith) end.inside (λ b. refl))) in
    let here : Law base t u a o p (λ ys b. AreRun t last P next s ys a b) = law_as base t u a o p _ _ turn
    (λ ys b (x, m, w, (xs, c, l, (e, f))). subst (λ v. AreRun t last P next s v a b) (sym e) (m, other, w, subst (λ v. AreRun t last P next (next s x) xs m v) (sym f) l)) (run_goes_as t last P next s a other) in
    let less : suc n - 1 ≡ n = omega arith in
    let mine : run_at t last r next (suc n) s a ≡ o = run_one t last r next (suc n) s a (omega arith) other ∙ ap (λ v. r s a >>= λ x. run_at t last r next v (next s x.0) x.1 >>= λ xs. good (x.0 ∷ xs.0, xs.1)) less in
    law_same base t u a (run_at t last r next (suc n) s a) o _ _ mine (law_there base t u a o (run_at u last q next k s a) p _ here (λ b.
    let far = reach_more t base a o here.steady.ahead in
    let there : mark_at u a ≢ last = λ e. other (sym (mark_kept t u _ a b far) ∙ e) in
    run_one u last q next k s a ((let in_it = begins_inside t u a _ st.inside far b in omega (arith, in_it, also))) there))

by_last : {S A : Type 0} (base : ℕ) (t u : List Lexeme) (d : ℕ) (last : Terminal) → same last marks.Nothing ≡ false → (r q : S → ℕ → Read A) (next : S → A → S) (P : S → A → ℕ → ℕ → Type 0)
    → ((s : S) → TakingFrom base t u d (r s) (q s) (P s)) → (n : ℕ) → RunClaim base t u d last r q next P n → (k : ℕ) (s : S) (a : ℕ) → length t < suc n + a → length u < k + a → Start base t d a → (b : Bool) → same (mark_at t a) last ≡ b
    → Law base t u a (run_at t last r next (suc n) s a) (run_at u last q next k s a) (λ xs b. AreRun t last P next s xs a b)
by_last base t u d last some r q next P items n again k s a enough also st true e = law_run_end base t u d last some r q next P (suc n) k s a enough also st (same_true _ _ e)
by_last base t u d last some r q next P items n again k s a enough also st false e = law_run_one base t u d last r q next P items n again k s a enough also st (not_mark _ _ e)

law_run_by : {S A : Type 0} (base : ℕ) (t u : List Lexeme) (d : ℕ) (last : Terminal) → same last marks.Nothing ≡ false → (r q : S → ℕ → Read A) (next : S → A → S) (P : S → A → ℕ → ℕ → Type 0)
    → ((s : S) → TakingFrom base t u d (r s) (q s) (P s)) → (n : ℕ) → RunClaim base t u d last r q next P n
law_run_by base t u d last some r q next P items zero k s a enough also st = absurd (let h = st.inside in omega (arith, h, enough))
law_run_by base t u d last some r q next P items (suc n) k s a enough also st = by_last base t u d last some r q next P items n (law_run_by base t u d last some r q next P items n) k s a enough also st (same (mark_at t a) last) refl

-- x*, up to a token of the mark `last`, behind a token
pub law_run : {S A : Type 0} (base : ℕ) (t u : List Lexeme) (d : ℕ) (last : Terminal) → same last marks.Nothing ≡ false → (r q : S → ℕ → Read A) (next : S → A → S) (P : S → A → ℕ → ℕ → Type 0)
    → ((s : S) → TakingFrom base t u d (r s) (q s) (P s)) → (s : S) (a : ℕ) → 1 ≤ a → Start base t d a
    → Law base t u a (run_at t last r next (length t) s a) (run_at u last q next (length u) s a) (λ xs b. AreRun t last P next s xs a b)
law_run base t u d last some r q next P items s a behind st = law_run_by base t u d last some r q next P items (length t) (length u) s a (omega (arith, behind)) (omega (arith, behind)) st
