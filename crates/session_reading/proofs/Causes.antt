-- Why one step gives nothing, as a cause of the whole.
use Rattle.std.proofs.Common.{ℕ, ◌≡◌, ◌≢◌, List, Result, Ok, Err, sym, subst, arith, ◌⊎◌, inl, inr}
use Rattle.std.specs.Prelude.{IfErr, IfOk, IsErrAnd}
use Rattle.io_ports.specs.Faults.{FaultCounts}
use Rattle.command_contract.specs.Contract.{IsInputRefusal}
use Rattle.command_contract.proofs.Statuses.{input-range}
use Rattle.refusal.specs.declared.last_line.LastLine.{LastLine}
use Rattle.refusal.specs.declared.last_line.LastLine.TheVariants.{Line, Memory}
use Rattle.refusal.specs.Ends.{CountsOf, HasCause, HasStatus, IsMemory, IsSpared, RefusalCounts, Says}

-- a cause of one kind is one of another
pub cause-of : (P Q : ℕ → List ℕ → Type 0) (r : LastLine) → ((s : ℕ) (l : List ℕ) → P s l → Q s l) → HasCause P r → HasCause Q r
cause-of P Q (Line s l) f holds = f s l.items holds
cause-of P Q Memory f holds = tt

-- what a refusal says has the cause of that
pub said : (P : ℕ → List ℕ → Type 0) (r : LastLine) (status : ℕ) (line : List ℕ) → P status line → Says r status line → HasCause P r
said P (Line s l) status line holds (e, f) =
    subst (λ n. P n l.items) (sym e) (subst (λ (text : List ℕ). P status text) (sym f) holds)
said P Memory status line holds says = tt

-- ---- causes that are no fault of the shelf: of a text, or of a limit
abbrev pub AreLow : (ℕ → List ℕ → Type 0) → Type 0
AreLow P = (s : ℕ) (l : List ℕ) → P s l → (s ≡ 3) ⊎ (s ≡ 4)

low-refusal : (s : ℕ) → (s ≡ 3) ⊎ (s ≡ 4) → IsInputRefusal s
low-refusal s (inl e) = inl e
low-refusal s (inr e) = inr (inl e)

low-no_five : (s : ℕ) → (s ≡ 3) ⊎ (s ≡ 4) → s ≢ 5
low-no_five s (inl e) five = omega (arith, e, five)
low-no_five s (inr e) five = omega (arith, e, five)

pub low-status : (P : ℕ → List ℕ → Type 0) → AreLow P → (r : LastLine) → HasCause P r → HasStatus r
low-status P low (Line s l) holds = low-refusal s (low s l.items holds)
low-status P low Memory holds = tt

pub low-counts : (P : ℕ → List ℕ → Type 0) → AreLow P → (old new : FaultCounts) (r : LastLine) → HasCause P r → new ≡ old → RefusalCounts old new r
low-counts P low old new (Line s l) holds same = (λ five. absurd (low-no_five s (low s l.items holds) five), λ _. same)
low-counts P low old new Memory holds same = tt

-- ---- want of memory
pub no-memory : (r : LastLine) (line : List ℕ) → HasStatus r → Says r 7 line → IsMemory r
no-memory (Line s l) line has (e, f) = absurd (omega (arith, e, input-range s has))
no-memory Memory line has says = tt

pub memory-cause : (P : ℕ → List ℕ → Type 0) (r : LastLine) → IsMemory r → HasCause P r
memory-cause P (Line s l) is = absurd is
memory-cause P Memory is = tt

pub memory-spared : (r : LastLine) → IsMemory r → IsSpared r
memory-spared (Line s l) is = absurd is
memory-spared Memory is = tt

-- ---- results
pub ok-of : {X E : Type 0} (P Q : X → Type 0) (r : Result X E) → ((x : X) → P x → Q x) → IfOk r P → IfOk r Q
ok-of P Q (Ok x) f holds = f x holds
ok-of P Q (Err e) f holds = tt

pub err-of : {X E : Type 0} (P Q : E → Type 0) (r : Result X E) → ((e : E) → P e → Q e) → IfErr r P → IfErr r Q
err-of P Q (Ok x) f holds = tt
err-of P Q (Err e) f holds = f e holds

pub low-counts_of : {X : Type 0} (P : ℕ → List ℕ → Type 0) → AreLow P → (old new : FaultCounts) (r : Result X LastLine) → IfErr r (HasCause P)
    → new ≡ old → CountsOf old new r
low-counts_of P low old new (Ok x) holds same = same
low-counts_of P low old new (Err refusal) holds same = low-counts P low old new refusal holds same

-- what is handed on keeps the counts
pub counts-passed : {X : Type 0} (old new : FaultCounts) (r : Result X LastLine) (why : LastLine) → IsErrAnd r (λ y. y ≡ why)
    → RefusalCounts old new why → CountsOf old new r
counts-passed old new (Ok x) why same fact = absurd same
counts-passed old new (Err y) why same fact = subst (RefusalCounts old new) (sym same) fact
