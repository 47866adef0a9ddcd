-- The ports of the next instance, and of those that have no scope.
use Rattle.std.proofs.Common.{◌≡◌, ℕ, suc, ◌<◌, ◌≤◌, min, Bool, true, false, leb, List, [], ◌∷◌, ◌++◌, map, length, get_or, drop, drop-cons, refl, sym, ap, ◌∙◌, subst, arith}
use Rattle.std.proofs.lemmas.Bool.{leb-true, leb-false}
use Rattle.std.proofs.lemmas.List.{drop_all}
use Rattle.v_hierarchy.specs.declared.instance.Instance.{Instance}
use Rattle.v_hierarchy.specs.Instances as plain
use Rattle.v_hierarchy.specs.Views.{instance_of, port_of}
use Rattle.v_binding.specs.Connections.{sockets}
use Rattle.v_binding.specs.Binding.{all_sockets}
use Rattle.bind_scopes.specs.declared.scope.Scope.{Scope}
use Rattle.v_binding.specs.Standing.{PortsStand, InstancesStand}
use Rattle.bind_scopes.specs.Views.{scope_of}

drop-is : {X : Type 0} (xs : List X) (at : ℕ) (x : X) → at < length xs → x ≡ get_or xs at x → drop at xs ≡ x ∷ drop (suc at) xs
drop-is xs at x within is = drop-cons xs at x within ∙ ap (λ y. y ∷ drop (suc at) xs) (sym is)

-- the next instance
pub sockets_next : (list : List Instance) (scopes : List Scope) (at next : ℕ) (i : Instance) (s : Scope) → suc at ≡ next → at < length list → at < length scopes
    → i ≡ get_or list at i → s ≡ get_or scopes at s
    → sockets (instance_of i) (scope_of s) ∷ all_sockets (map instance_of (drop next list)) (map scope_of (drop next scopes))
    ≡ all_sockets (map instance_of (drop at list)) (map scope_of (drop at scopes))
sockets_next list scopes at next i s one within inside is is_scope =
    ap (λ k. sockets (instance_of i) (scope_of s) ∷ all_sockets (map instance_of (drop k list)) (map scope_of (drop k scopes))) (sym one)
    ∙ sym (ap (λ xs. all_sockets (map instance_of xs) (map scope_of (drop at scopes))) (drop-is list at i within is)
    ∙ ap (λ xs. all_sockets (map instance_of (i ∷ drop (suc at) list)) (map scope_of xs)) (drop-is scopes at s inside is_scope))

pub one-behind : {X Y : Type 0} (f : X → Y) (xs : List X) (x : X) (ys : List Y) → map f (xs ++ x ∷ []) ++ ys ≡ map f xs ++ f x ∷ ys
one-behind f [] x ys = refl
one-behind f (z ∷ zs) x ys = ap (λ l. f z ∷ l) (one-behind f zs x ys)

no-scope : (is : List plain.Instance) → all_sockets is [] ≡ []
no-scope [] = refl
no-scope (i ∷ is) = refl

pub sockets_end : (list : List Instance) (scopes : List Scope) (at : ℕ) → min (length list) (length scopes) ≤ at
    → all_sockets (map instance_of (drop at list)) (map scope_of (drop at scopes)) ≡ []
sockets_end list scopes at all = step (leb (length list) at) refl
  where
    step : (b : Bool) → leb (length list) at ≡ b → all_sockets (map instance_of (drop at list)) (map scope_of (drop at scopes)) ≡ []
    step true e = ap (λ xs. all_sockets (map instance_of xs) (map scope_of (drop at scopes))) (drop_all at list (leb-true (length list) at e))
    step false e =
        ap (λ xs. all_sockets (map instance_of (drop at list)) (map scope_of xs)) (drop_all at scopes (omega (arith, all, leb-false (length list) at e)))
        ∙ no-scope (map instance_of (drop at list))

-- ports of the next instance stand, and the instances behind it
stand-first : (i : plain.Instance) (is : List plain.Instance) → InstancesStand (i ∷ is) → PortsStand i.ports × InstancesStand is
stand-first i is (ports, body, rest) = (ports, rest)

pub stand_next : (list : List Instance) (at next : ℕ) (i : Instance) → suc at ≡ next → at < length list → i ≡ get_or list at i
    → InstancesStand (map instance_of (drop at list)) → PortsStand (map port_of i.ports) × InstancesStand (map instance_of (drop next list))
stand_next list at next i one within is all =
    subst (λ k. PortsStand (map port_of i.ports) × InstancesStand (map instance_of (drop k list))) one
    (stand-first (instance_of i) (map instance_of (drop (suc at) list)) (subst (λ xs. InstancesStand (map instance_of xs)) (drop-is list at i within is) all))
