-- What the private reading says of the answers of public readers.
use Rattle.std.proofs.Common.{◌≡◌, ◌≢◌, ℕ, ◌≤◌, List, length, Ok, sym, ap, ◌∙◌, subst, refl, arith}
use Rattle.v_lexer.specs.Lexeme.{Lexeme}
use Rattle.v_tree.specs.declared.fault.Fault.{Fault}
use Rattle.v_tree.specs.declared.fault.Stop.{Stop}
use Rattle.v_tree.specs.declared.fault.Stop.TheVariants as stop
use Rattle.v_tree.specs.declared.fault.ParseErr.TheVariants as error
use Rattle.v_tree.specs.Faults.{Fails, error_of, fault_place}
use Rattle.v_tree.specs.Reading.{Read}
use Rattle.v_tree.proofs.BindLemmas.{bad, ok-one, bad_good}
use Rattle.v_tree.proofs.SteadyLemmas.{Steady, told_more}
use Rattle.v_parts.specs.Answers.{Refuses, ShowsFault}
use Rattle.v_parts.proofs.Laws.{Start, Law, begins_inside}

-- a reader's law from any place within the tokens, before which nothing is open
abbrev pub LawAt : {A : Type 0} → (List Lexeme → ℕ → Read A) → (List Lexeme → A → ℕ → ℕ → Type 0) → Type 0
LawAt r P = (t u : List Lexeme) (a : ℕ) → a ≤ length t → Law a t u a (r t a) (r u a) (λ x b. P t x a b)

pub start_at : (t : List Lexeme) (a : ℕ) → a ≤ length t → Start a t 256 a
start_at t a h = record { inside = h; deep = omega arith; far = omega arith }

pub found_one : {A : Type 0} (r : List Lexeme → ℕ → Read A) (P : List Lexeme → A → ℕ → ℕ → Type 0) → LawAt r P → (t : List Lexeme) (a : ℕ) → a ≤ length t → (x : A) (b : ℕ) → r t a ≡ Ok (x, b) → P t x a b
found_one r P law t a h x b e = (law t t a h).sound x b e

pub found_only : {A : Type 0} (r : List Lexeme → ℕ → Read A) (P : List Lexeme → A → ℕ → ℕ → Type 0) → LawAt r P → (t : List Lexeme) (a : ℕ) → a ≤ length t → (x : A) (end : ℕ) → r t a ≡ Ok (x, end)
    → (s : A) (b : ℕ) → P t s a b → (x ≡ s) × (end ≡ b)
found_only {A} r P law t a k x end is s b h =
    let one = ok-one (x, end) (s, b) (sym is ∙ (law t t a k).complete s b h) in
    (ap (λ (q : A × ℕ). q.0) one, ap (λ (q : A × ℕ). q.1) one)

-- where reading refuses, no tree is there, unless memory ran out
pub refused_only : {A : Type 0} (r : List Lexeme → ℕ → Read A) (P : List Lexeme → A → ℕ → ℕ → Type 0) → LawAt r P → (t : List Lexeme) (a : ℕ) → a ≤ length t → (e : Stop) → Fails e (r t a)
    → (s : A) (b : ℕ) → P t s a b → error_of t e ≡ error.NoMemory
refused_only r P law t a k (stop.Fault f) is s b h = bad_good f (s, b) (sym is ∙ (law t t a k).complete s b h)
refused_only r P law t a k stop.NoMemory is s b h = refl

refuses : {A : Type 0} (r : List Lexeme → ℕ → Read A) (P : List Lexeme → A → ℕ → ℕ → Type 0) → LawAt r P → (t : List Lexeme) (a : ℕ) → a ≤ length t → (f : Fault) → r t a ≡ bad f → Refuses P t a f
refuses {A} r P law t a h f e =
    let steady = λ (u : List Lexeme). let s : Steady a t u a (bad {A = A × ℕ} f) (r u a) = subst (λ (o : Read A). Steady a t u a o (r u a)) e (law t u a h).steady in s in
    let here = (steady t).ahead in
    record {
      after = here.0;
      inside = here.1;
      no_tree = λ others b s c is.
          let more = told_more t (fault_place f) in
          let there = begins_inside t others a _ h (omega (arith, here.0, more)) b in
          bad_good f (s, c) (sym ((steady others).same_read b) ∙ (law others others a there).complete s c is);
      refused = here.2.refused;
      deep = here.2.deep;
    }

pub shows_fault : {A : Type 0} (r : List Lexeme → ℕ → Read A) (P : List Lexeme → A → ℕ → ℕ → Type 0) → LawAt r P → (t : List Lexeme) (a : ℕ) → a ≤ length t → (e : Stop) → Fails e (r t a)
    → error_of t e ≢ error.NoMemory → ShowsFault P t a (error_of t e)
shows_fault r P law t a h (stop.Fault f) is k = record { fault = f; shown = refl; refuses = refuses r P law t a h f is }
shows_fault r P law t a h stop.NoMemory is k = absurd (k refl)
