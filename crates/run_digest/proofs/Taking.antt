-- What a hasher took, one piece after another.
use Rattle.std.proofs.Common.{◌≡◌, ℕ, zero, suc, ◌+◌, ◌<◌, List, [], ◌∷◌, ◌++◌, length, take, get_or, subst, sym, ap, ◌∙◌, append_assoc, append-nil, arith}
use Rattle.std.specs.List.{flat_map}
use Rattle.sha2.specs.Hashers.{Holds256}
use Rattle.sha2.specs.declared.Sha256.{Sha256}
use Rattle.run_digest.specs.Feeding.{Took}

-- nothing was taken
pub Took_nothing : (hasher : Sha256) → Took hasher hasher []
Took_nothing hasher message holds = subst (Holds256 hasher) (sym (append-nil message)) holds

pub Took-append : (old mid new : Sha256) (one two : List ℕ) → Took old mid one → Took mid new two → Took old new (one ++ two)
Took-append old mid new one two h k message holds = subst (Holds256 new) (append_assoc message one two) (k (message ++ one) (h message holds))

-- the pieces up to one more
pub flat_map-take-suc : {A B : Type 0} (f : A → List B) (xs : List A) (i : ℕ) (d x : A) → i < length xs → get_or xs i d ≡ x → flat_map f (take (suc i) xs) ≡ flat_map f (take i xs) ++ f x
flat_map-take-suc f [] i d x lt e = absurd (omega arith)
flat_map-take-suc f (y ∷ ys) zero d x lt e = append-nil (f y) ∙ ap f e
flat_map-take-suc f (y ∷ ys) (suc i) d x lt e = ap (λ s. f y ++ s) (flat_map-take-suc f ys i d x (omega arith) e) ∙ sym (append_assoc (f y) _ _)

-- one more piece of some
pub Took-next : {A : Type 0} (old mid new : Sha256) (f : A → List ℕ) (xs : List A) (i : ℕ) (d x : A) → i < length xs → get_or xs i d ≡ x → Took old mid (flat_map f (take i xs)) → Took mid new (f x) → Took old new (flat_map f (take (i + 1) xs))
Took-next old mid new f xs i d x lt is h k =
    let next : i + 1 ≡ suc i = omega arith in
    subst (Took old new) (sym (ap (λ n. flat_map f (take n xs)) next ∙ flat_map-take-suc f xs i d x lt is)) (Took-append old mid new (flat_map f (take i xs)) (f x) h k)
