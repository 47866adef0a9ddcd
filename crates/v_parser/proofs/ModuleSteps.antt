-- The steps of reading the modules of a text, as equations.
use Rattle.std.proofs.Common.{◌≡◌, ◌≢◌, ℕ, zero, suc, ◌-◌, ◌<◌, ◌≤◌, if◌then◌else◌, nat_lt, le-ltb, lt-ltb, List, [], ◌∷◌, ◌++◌, length, map, sym, ap, ◌∙◌, refl, arith}
use Rattle.v_lexer.specs.Lexeme.{Lexeme}
use Rattle.v_tree.specs.declared.fault.Fault.{Fault}
use Rattle.v_syntax.specs.declared.module.Module.{Module}
use Rattle.v_tree.specs.Reading.{◌>>=◌}
use Rattle.v_tree.proofs.BindLemmas.{good, bad}
use Rattle.v_tree.proofs.CompleteLemmas.{step, then_of, else_of}
use Rattle.v_syntax.specs.ModuleTree.{PlainModule, module_of}
use Rattle.v_parser.specs.ModuleReading.{module_at, modules_at}
use Rattle.v_parts.proofs.ListSteps.{with_front, front_one, append_none}

modules_some : (t : List Lexeme) (n a : ℕ) → n ≢ 0
    → modules_at t n a ≡ (if nat_lt a (length t) then (module_at t 256 a >>= λ x. modules_at t (n - 1) x.1 >>= λ xs. good (x.0 ∷ xs.0, xs.1)) else good ([], a))
unfolding modules_at
modules_some t zero a some = absurd (some refl)
modules_some t (suc n) a some =
    let e : suc n - 1 ≡ n = omega arith in
    ap (λ k. if nat_lt a (length t) then (module_at t 256 a >>= λ x. modules_at t k x.1 >>= λ xs. good (x.0 ∷ xs.0, xs.1)) else good ([], a)) (sym e)

modules_zero : (t : List Lexeme) (a : ℕ) → modules_at t 0 a ≡ good ([], a)
unfolding modules_at
modules_zero t a = refl

-- one more is read
pub modules_turn : (t : List Lexeme) (n a : ℕ) (front : List Module) (y : Module) (m : ℕ) → n ≢ 0 → a < length t → module_at t 256 a ≡ good (module_of y, m)
    → with_front module_of front (modules_at t n a) ≡ with_front module_of (front ++ y ∷ []) (modules_at t (n - 1) m)
modules_turn t n a front y m some here read =
    ap (with_front module_of front) (modules_some t n a some ∙ then_of _ _ _ _ (lt-ltb a (length t) here) (step (module_at t 256 a) (module_of y, m) _ _ read refl))
    ∙ front_one module_of front y (modules_at t (n - 1) m)

-- as many as there are tokens were read
pub modules_done : (t : List Lexeme) (n a : ℕ) (front : List Module) → n ≡ 0 → with_front module_of front (modules_at t n a) ≡ good (map module_of front, a)
modules_done t n a front e =
    ap (with_front module_of front) (ap (λ k. modules_at t k a) e ∙ modules_zero t a) ∙ ap (λ q. good {A = List PlainModule × ℕ} (q, a)) (append_none (map module_of front))

-- no token follows
pub modules_end : (t : List Lexeme) (n a : ℕ) (front : List Module) → n ≢ 0 → length t ≤ a → with_front module_of front (modules_at t n a) ≡ good (map module_of front, a)
modules_end t n a front some past =
    ap (with_front module_of front) (modules_some t n a some ∙ else_of _ _ _ _ (le-ltb a (length t) past) refl) ∙ ap (λ q. good {A = List PlainModule × ℕ} (q, a)) (append_none (map module_of front))

-- the next one fails
pub modules_fails : (t : List Lexeme) (n a : ℕ) (front : List Module) (f : Fault) → n ≢ 0 → a < length t → module_at t 256 a ≡ bad f → with_front module_of front (modules_at t n a) ≡ bad f
modules_fails t n a front f some here read =
    ap (with_front module_of front) (modules_some t n a some ∙ then_of _ _ _ _ (lt-ltb a (length t) here) (ap (λ q. q >>= λ x. modules_at t (n - 1) x.1 >>= λ xs. good {A = List PlainModule × ℕ} (x.0 ∷ xs.0, xs.1)) read))
