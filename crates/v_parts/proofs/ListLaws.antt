-- What the readers of lists with commas read.
use Rattle.std.proofs.Common.{◌≡◌, ◌≢◌, ℕ, zero, suc, ◌+◌, ◌-◌, ◌≤◌, Bool, true, false, List, [], ◌∷◌, length, sym, ap, ◌∙◌, subst, refl, arith}
use Rattle.v_lexer.specs.Lexeme.{Lexeme}
use Rattle.v_lexer.specs.declared.types.terminal.Terminal.TheVariants as marks
use Rattle.v_tree.specs.Marks.{mark_at, same}
use Rattle.v_tree.specs.Reading.{Read, ◌>>=◌}
use Rattle.v_tree.proofs.MarkLemmas.{same_true, same_of}
use Rattle.v_tree.proofs.PlaceLemmas.{marked_inside, past_nothing}
use Rattle.v_tree.proofs.BindLemmas.{good}
use Rattle.v_tree.proofs.SoundLemmas.{not_mark}
use Rattle.v_tree.proofs.CompleteLemmas.{then_of, else_of, apart_of}
use Rattle.v_tree.proofs.SteadyLemmas.{reach_more, not_by, mark_kept}
use Rattle.v_parts.specs.Reading.{more_at, list_at}
use Rattle.v_parts.specs.Productions.{AreMore, AreListed}
use Rattle.v_parts.proofs.Laws.{Start, Law, LawFrom, later, law_as, law_bind, law_before, law_found, law_same, law_there}

more_none : {A : Type 0} (t : List Lexeme) (r : ℕ → Read A) (n a : ℕ) → mark_at t a ≢ marks.Comma → more_at t r n a ≡ good ([], a)
unfolding more_at
more_none t r zero a none = refl
more_none t r (suc n) a none = else_of _ _ _ _ (apart_of _ _ none) refl

more_one : {A : Type 0} (t : List Lexeme) (r : ℕ → Read A) (n a : ℕ) → n ≢ 0 → mark_at t a ≡ marks.Comma
    → more_at t r n a ≡ (r (a + 1) >>= λ x. more_at t r (n - 1) x.1 >>= λ xs. good (x.0 ∷ xs.0, xs.1))
unfolding more_at
more_one t r zero a some comma = absurd (some refl)
more_one t r (suc n) a some comma =
    let e : suc n - 1 ≡ n = omega arith in
    then_of _ _ _ _ (same_of _ _ comma) (ap (λ k. r (a + 1) >>= λ x. more_at t r k x.1 >>= λ xs. good (x.0 ∷ xs.0, xs.1)) (sym e))

more_listed : {A : Type 0} (t : List Lexeme) (P : A → ℕ → ℕ → Type 0) (a : ℕ) → mark_at t a ≡ marks.Comma → (ys : List A) (b : ℕ) → AreMore t P ys a b
    → (x : A) × (m : ℕ) × P x (a + 1) m × ((xs : List A) × (n : ℕ) × AreMore t P xs m n × ((ys ≡ x ∷ xs) × (b ≡ n)))
more_listed t P a comma [] b (none, e) = absurd (none comma)
more_listed t P a comma (x ∷ xs) b (m, is, q, r) = (x, m, q, (xs, b, r, (refl, refl)))

more_ended : {A : Type 0} (t : List Lexeme) (P : A → ℕ → ℕ → Type 0) (a : ℕ) → mark_at t a ≢ marks.Comma → (ys : List A) (b : ℕ) → AreMore t P ys a b → (ys ≡ []) × (b ≡ a)
more_ended t P a none [] b (same_mark, e) = (refl, e)
more_ended t P a none (x ∷ xs) b (m, is, q, r) = absurd (none is)

law_no_more : {A : Type 0} (base : ℕ) (t u : List Lexeme) (d a : ℕ) → Start base t d a → (r s : ℕ → Read A) (P : A → ℕ → ℕ → Type 0) (n k : ℕ) → mark_at t a ≢ marks.Comma
    → Law base t u a (more_at t r n a) (more_at u s k a) (λ xs b. AreMore t P xs a b)
law_no_more {A} base t u d a st r s P n k none =
    let found : Law base t u a (good {A = List A × ℕ} ([], a)) (good ([], a)) (λ y b. (y ≡ []) × (b ≡ a)) = law_found base t u a a [] [] (omega arith) st.inside (λ b. refl) in
    law_same base t u a (more_at t r n a) (good ([], a)) _ _ (more_none t r n a none) (law_there base t u a (good ([], a)) (more_at u s k a) (good ([], a)) _
    (law_as base t u a _ _ _ _ found (λ ys b (e, f). subst (λ v. AreMore t P v a b) (sym e) (none, f)) (more_ended t P a none))
    (λ b. more_none u s k a (λ e. none (sym (mark_kept t u a a b (omega arith)) ∙ e))))

abbrev MoreClaim : {A : Type 0} → ℕ → List Lexeme → List Lexeme → ℕ → (ℕ → Read A) → (ℕ → Read A) → (A → ℕ → ℕ → Type 0) → ℕ → Type 0
MoreClaim base t u d r s P n = (k a : ℕ) → length t ≤ n + a → length u ≤ k + a → Start base t d a → Law base t u a (more_at t r n a) (more_at u s k a) (λ xs b. AreMore t P xs a b)

law_one_more : {A : Type 0} (base : ℕ) (t u : List Lexeme) (d : ℕ) (r s : ℕ → Read A) (P : A → ℕ → ℕ → Type 0) → LawFrom base t u d r s P → (n : ℕ) → MoreClaim base t u d r s P n
    → (k a : ℕ) → length t ≤ suc n + a → length u ≤ k + a → Start base t d a → mark_at t a ≡ marks.Comma
    → Law base t u a (more_at t r (suc n) a) (more_at u s k a) (λ xs b. AreMore t P xs a b)
law_one_more {A} base t u d r s P item n again k a enough also st comma =
    let inside = marked_inside t a (λ gone. not_by marks.Comma marks.Nothing refl (sym comma ∙ gone)) in
    let o : Read (List A) = r (a + 1) >>= λ x. more_at t r n x.1 >>= λ xs. good (x.0 ∷ xs.0, xs.1) in
    let p : Read (List A) = s (a + 1) >>= λ x. more_at u s (k - 1) x.1 >>= λ xs. good (x.0 ∷ xs.0, xs.1) in
    let next = later base t d a (a + 1) st (omega arith) (omega (arith, inside)) in
    let turn : Law base t u (a + 1) o p (λ ys b. (x : A) × (m : ℕ) × P x (a + 1) m × ((xs : List A) × (c : ℕ) × AreMore t P xs m c × ((ys ≡ x ∷ xs) × (b ≡ c)))) =
    law_bind base t u d (a + 1) next (r (a + 1)) (s (a + 1)) _ _ (λ x b. P x (a + 1) b) _ (item (a + 1) next) (λ x m q ge there.
    law_bind base t u d m there (more_at t r n m) (more_at u s (k - 1) m) _ _ (λ xs b. AreMore t P xs m b) _ (again (k - 1) m (omega (arith, enough, ge)) (omega (arith, also, ge)) there) (λ xs c q2 ge2 end.
    law_found base t u c c (x ∷ xs) (x ∷ xs) (omega arith) end.inside (λ b. refl))) in
    let here : Law base t u a o p (λ ys b. AreMore t P ys a b) = law_as base t u a o p _ _ (law_before base t u a (a + 1) o p _ (omega arith) turn)
    (λ ys b (x, m, q, (xs, c, l, (e, f))). subst (λ v. AreMore t P v a b) (sym e) (m, comma, q, subst (λ v. AreMore t P xs m v) (sym f) l)) (more_listed t P a comma) in
    let less : suc n - 1 ≡ n = omega arith in
    let mine : more_at t r (suc n) a ≡ o = more_one t r (suc n) a (omega arith) comma ∙ ap (λ v. r (a + 1) >>= λ x. more_at t r v x.1 >>= λ xs. good (x.0 ∷ xs.0, xs.1)) less in
    law_same base t u a (more_at t r (suc n) a) o _ _ mine (law_there base t u a o (more_at u s k a) p _ here (λ b.
    let there : mark_at u a ≡ marks.Comma = mark_kept t u _ a b (reach_more t base a o here.steady.ahead) ∙ comma in
    let in_it = marked_inside u a (λ gone. not_by marks.Comma marks.Nothing refl (sym there ∙ gone)) in
    more_one u s k a (omega (arith, in_it, also)) there))

by_comma : {A : Type 0} (base : ℕ) (t u : List Lexeme) (d : ℕ) (r s : ℕ → Read A) (P : A → ℕ → ℕ → Type 0) → LawFrom base t u d r s P → (n : ℕ) → MoreClaim base t u d r s P n
    → (k a : ℕ) → length t ≤ suc n + a → length u ≤ k + a → Start base t d a → (b : Bool) → same (mark_at t a) marks.Comma ≡ b
    → Law base t u a (more_at t r (suc n) a) (more_at u s k a) (λ xs b. AreMore t P xs a b)
by_comma base t u d r s P item n again k a enough also st true e = law_one_more base t u d r s P item n again k a enough also st (same_true _ _ e)
by_comma base t u d r s P item n again k a enough also st false e = law_no_more base t u d a st r s P (suc n) k (not_mark _ _ e)

-- (',' x)*
pub law_more : {A : Type 0} (base : ℕ) (t u : List Lexeme) (d : ℕ) (r s : ℕ → Read A) (P : A → ℕ → ℕ → Type 0) → LawFrom base t u d r s P → (n : ℕ) → MoreClaim base t u d r s P n
law_more base t u d r s P item zero k a enough also st =
    law_no_more base t u d a st r s P zero k (λ e. not_by marks.Comma marks.Nothing refl (sym e ∙ past_nothing t a (omega (arith, enough))))
law_more base t u d r s P item (suc n) k a enough also st = by_comma base t u d r s P item n (law_more base t u d r s P item n) k a enough also st (same (mark_at t a) marks.Comma) refl

listed_as : {A : Type 0} (t : List Lexeme) (P : A → ℕ → ℕ → Type 0) (a : ℕ) (ys : List A) (b : ℕ) → AreListed t P ys a b
    → (x : A) × (m : ℕ) × P x a m × ((xs : List A) × (n : ℕ) × AreMore t P xs m n × ((ys ≡ x ∷ xs) × (b ≡ n)))
listed_as t P a [] b none = absurd none
listed_as t P a (x ∷ xs) b (m, q, r) = (x, m, q, (xs, b, r, (refl, refl)))

-- x,+
pub law_list : {A : Type 0} (base : ℕ) (t u : List Lexeme) (d : ℕ) (r s : ℕ → Read A) (P : A → ℕ → ℕ → Type 0) → LawFrom base t u d r s P → LawFrom base t u d (list_at t r) (list_at u s) (AreListed t P)
unfolding list_at
law_list {A} base t u d r s P item a st =
    law_as base t u a _ _ _ _
    (law_bind base t u d a st (r a) (s a) (λ x. more_at t r (length t) x.1 >>= λ xs. good (x.0 ∷ xs.0, xs.1)) (λ x. more_at u s (length u) x.1 >>= λ xs. good (x.0 ∷ xs.0, xs.1)) (λ x b. P x a b)
    (λ x m ys b. (xs : List A) × (n : ℕ) × AreMore t P xs m n × ((ys ≡ x ∷ xs) × (b ≡ n))) (item a st) (λ x m q ge there.
    law_bind base t u d m there (more_at t r (length t) m) (more_at u s (length u) m) _ _ (λ xs b. AreMore t P xs m b) (λ xs c ys b. (ys ≡ x ∷ xs) × (b ≡ c)) (law_more base t u d r s P item (length t) (length u) m (omega arith) (omega arith) there) (λ xs c q2 ge2 end.
    law_found base t u c c (x ∷ xs) (x ∷ xs) (omega arith) end.inside (λ b. refl))))
    (λ ys b (x, m, q, (xs, c, l, (e, f))). subst (λ v. AreListed t P v a b) (sym e) (m, q, subst (λ v. AreMore t P xs m v) (sym f) l)) (listed_as t P a)
