-- The next instance with its scope and the ports of its children.
use Rattle.std.proofs.Common.{◌≡◌, ℕ, zero, suc, ◌+◌, ◌<◌, ◌≤◌, Bool, true, false, List, [], ◌∷◌, ◌++◌, map, length, length-append, get_or, drop, drop-cons, refl, sym, ap, ◌∙◌, subst, arith}
use Rattle.std.specs.Prelude.{if◌then◌else◌, Result, Ok, Err}
use Rattle.std.proofs.lemmas.List.{drop_all, length-map}
use Rattle.bind_scopes.specs.declared.socket.Socket.{Socket as Held}
use Rattle.v_hierarchy.specs.declared.instance.Instance.{Instance}
use Rattle.v_hierarchy.specs.Instances as plain
use Rattle.v_hierarchy.specs.Views.{instance_of, block_of}
use Rattle.v_binding.specs.declared.error.BindErr.{BindErr}
use Rattle.v_binding.specs.Steps.{◌>>=◌}
use Rattle.v_binding.specs.Blocks.{Frame}
use Rattle.v_binding.specs.Bound.{Bound}
use Rattle.v_binding.specs.Connections.{Socket}
use Rattle.v_binding.specs.Steps.{through}
use Rattle.v_binding.specs.Signals as signals
use Rattle.v_binding.specs.Signals.{scoped, with_instance, numbered_instance, signals_of}
use Rattle.v_binding.specs.Binding.{is_in, children_of, all_sockets, instance_items, bound_from}
use Rattle.bind_scopes.specs.declared.scope.Scope.{Scope}
use Rattle.v_binding.specs.Standing.{BlockStands, InstancesStand}
use Rattle.bind_scopes.specs.Views.{scope_of, socket_of}
use Rattle.bind_scopes.specs.Children.{numbers_from}

drop-is : {X : Type 0} (xs : List X) (at : ℕ) (x : X) → at < length xs → x ≡ get_or xs at x → drop at xs ≡ x ∷ drop (suc at) xs
drop-is xs at x within is = drop-cons xs at x within ∙ ap (λ y. y ∷ drop (suc at) xs) (sym is)

record Front {X : Type 0} (xs : List X) (k : ℕ) (d x : X) (rest : List X) : Type 0 where
  first : get_or xs k d ≡ x
  behind : drop (suc k) xs ≡ rest

front : {X : Type 0} (xs : List X) (k : ℕ) (d x : X) (rest : List X) → drop k xs ≡ x ∷ rest → Front xs k d x rest
front [] zero d x rest is = cc
front (y ∷ ys) zero d x rest is = let same : y ≡ x = cc in let more : ys ≡ rest = cc in record { first = same; behind = more }
front [] (suc k) d x rest is = cc
front (y ∷ ys) (suc k) d x rest is = let f = front ys k d x rest is in record { first = f.first; behind = f.behind }

-- the ports of an instance's children, by their numbers
children-from : {X : Type 0} (f : List X → List Socket) (n k : ℕ) (is : List plain.Instance) (all ps : List (List X)) → drop k all ≡ ps → length ps ≡ length is
    → map (λ number. f (get_or all number [])) (numbers_from n k is) ≡ children_of n is (map f ps)
children-from f n k [] all ps at long = refl
children-from f n k (i ∷ is) all [] at long = absurd (omega (arith, long))
children-from f n k (i ∷ is) all (p ∷ ps) at long =
    let here = front all k [] p ps at in
    step (is_in n i) here.first (children-from f n (suc k) is all ps here.behind (omega (arith, long)))
  where
    step : (inside : Bool) → get_or all k [] ≡ p
        → map (λ number. f (get_or all number [])) (numbers_from n (suc k) is) ≡ children_of n is (map f ps)
        → map (λ number. f (get_or all number [])) (if inside then k ∷ numbers_from n (suc k) is else numbers_from n (suc k) is)
        ≡ (if inside then f p ∷ children_of n is (map f ps) else children_of n is (map f ps))
    step true first rest = ap (λ q. f q ∷ map (λ number. f (get_or all number [])) (numbers_from n (suc k) is)) first ∙ ap (λ l. f p ∷ l) rest
    step false first rest = rest

pub children_is : {X : Type 0} (f : List X → List Socket) (n : ℕ) (is : List plain.Instance) (all : List (List X)) → length all ≡ length is
    → map (λ number. f (get_or all number [])) (numbers_from n 0 is) ≡ children_of n is (map f all)
children_is f n is all long = children-from f n 0 is all all refl long

-- the next instance
pub bound_next : (f : Frame) (all : List plain.Instance) (ports : List (List Socket)) (list : List Instance) (scopes : List Scope) (at next : ℕ) (i : Instance) (s : Scope)
    (kids : List (List Socket)) (b : Bound) → suc at ≡ next → at < length list → at < length scopes → i ≡ get_or list at i → s ≡ get_or scopes at s → kids ≡ children_of at all ports
    → bound_from f all ports at (map instance_of (drop at list)) (map scope_of (drop at scopes)) b
    ≡ (instance_items f (instance_of i) (scope_of s) kids b >>= bound_from f all ports next (map instance_of (drop next list)) (map scope_of (drop next scopes)))
bound_next f all ports list scopes at next i s kids b one within inside is is_scope own =
    ap (λ xs. bound_from f all ports at (map instance_of xs) (map scope_of (drop at scopes)) b) (drop-is list at i within is)
    ∙ ap (λ xs. bound_from f all ports at (map instance_of (i ∷ drop (suc at) list)) (map scope_of xs) b) (drop-is scopes at s inside is_scope)
    ∙ ap (λ k. instance_items f (instance_of i) (scope_of s) (children_of at all ports) b >>= bound_from f all ports k (map instance_of (drop (suc at) list)) (map scope_of (drop (suc at) scopes))) step
    ∙ ap (λ k. instance_items f (instance_of i) (scope_of s) (children_of at all ports) b >>= bound_from f all ports k (map instance_of (drop k list)) (map scope_of (drop k scopes))) one
    ∙ ap (λ c. instance_items f (instance_of i) (scope_of s) c b >>= bound_from f all ports next (map instance_of (drop next list)) (map scope_of (drop next scopes))) (sym own)
  where
    step : at + 1 ≡ suc at
    step = omega arith

pub bound_end : (f : Frame) (all : List plain.Instance) (ports : List (List Socket)) (list : List Instance) (scopes : List Scope) (at : ℕ) (b : Bound) → length list ≤ at
    → bound_from f all ports at (map instance_of (drop at list)) (map scope_of (drop at scopes)) b ≡ Ok b
bound_end f all ports list scopes at b past = ap (λ xs. bound_from f all ports at (map instance_of xs) (map scope_of (drop at scopes)) b) (drop_all at list past)

stand-first : (i : plain.Instance) (is : List plain.Instance) → InstancesStand (i ∷ is) → BlockStands i.body × InstancesStand is
stand-first i is (ports, body, rest) = (body, rest)

pub stand_next : (list : List Instance) (at next : ℕ) (i : Instance) → suc at ≡ next → at < length list → i ≡ get_or list at i
    → InstancesStand (map instance_of (drop at list)) → BlockStands (block_of i.body) × InstancesStand (map instance_of (drop next list))
stand_next list at next i one within is all =
    subst (λ k. BlockStands (block_of i.body) × InstancesStand (map instance_of (drop k list))) one
    (stand-first (instance_of i) (map instance_of (drop (suc at) list)) (subst (λ xs. InstancesStand (map instance_of xs)) (drop-is list at i within is) all))

-- ---- as many scopes and lists of ports as instances
pub sockets_long : (is : List plain.Instance) (ss : List signals.Scope) → length ss ≡ length is → length (all_sockets is ss) ≡ length is
sockets_long [] ss long = refl
sockets_long (i ∷ is) [] long = absurd (omega (arith, long))
sockets_long (i ∷ is) (s ∷ ss) long = omega (arith, sockets_long is ss (omega (arith, long)))

scopes-long : (is : List plain.Instance) (met : signals.Whole) → length (through with_instance is met).scopes ≡ length met.scopes + length is
scopes-long [] met = omega arith
scopes-long (i ∷ is) met =
    omega (arith, scopes-long is (with_instance i met), length-append met.scopes (scoped (numbered_instance i met.signals).names (numbered_instance i met.signals).inside ∷ []))

pub scopes_long : (is : List plain.Instance) → length (signals_of is).scopes ≡ length is
scopes_long is = omega (arith, scopes-long is (record { scopes = []; signals = [] }))

-- as many lists of ports as instances, as the code holds both
pub ports_long : (ports : List (List Held)) (list : List Instance) (scopes : List Scope) → map (map socket_of) ports ≡ all_sockets (map instance_of list) (map scope_of scopes)
    → length scopes ≡ length list → length ports ≡ length (map instance_of list)
ports_long ports list scopes is long = omega (arith, length-map ports (map socket_of), ap length is, all-long)
  where
    as-long : length (map scope_of scopes) ≡ length (map instance_of list)
    as-long = omega (arith, long, length-map scopes scope_of, length-map list instance_of)

    all-long : length (all_sockets (map instance_of list) (map scope_of scopes)) ≡ length (map instance_of list)
    all-long = sockets_long (map instance_of list) (map scope_of scopes) as-long

-- as many scopes as instances
pub scopes_held : (scopes : List Scope) (numbered : List signals.Numbered) (list : List Instance)
    → ◌≡◌ {A = signals.Whole} (record { scopes = map scope_of scopes; signals = numbered }) (signals_of (map instance_of list)) → length scopes ≡ length list
scopes_held scopes numbered list is =
    omega (arith, length-map scopes scope_of, length-map list instance_of, ap (λ w. length w.scopes) is, scopes_long (map instance_of list))
