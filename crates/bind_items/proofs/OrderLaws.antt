-- Connections by order, a port and its value at a time.
use Rattle.std.proofs.Common.{◌≡◌, ℕ, zero, suc, ◌+◌, ◌<◌, ◌≤◌, List, [], ◌∷◌, length, map, drop, Option, Some, None, refl, sym, ap, ◌∙◌, arith}
use Rattle.std.specs.Prelude.{option_map, get_or, min, Ok, Err}
use Rattle.std.specs.Option.{option_map_or}
use Rattle.v_syntax.specs.declared.expression.Expr.{Expr}
use Rattle.v_syntax.specs.Tree.{Tree, tree_of}
use Rattle.v_binding.specs.declared.error.BindErr.{BindErr}
use Rattle.v_binding.specs.Steps.{◌>>=◌}
use Rattle.v_binding.specs.Names.{Names}
use Rattle.v_binding.specs.Places.{Home}
use Rattle.v_binding.specs.Bound.{Bound}
use Rattle.v_binding.specs.Blocks.{Frame}
use Rattle.v_hierarchy.specs.declared.instance.Child.{Child}
use Rattle.v_hierarchy.specs.Views as view
use Rattle.v_hierarchy.specs.Views.{connections_if}
use Rattle.v_binding.specs.Connections.{Socket, Wire, wire_at, connection, by_order, connected, child_of}
use Rattle.bind_scopes.specs.declared.socket.Socket as code
use Rattle.bind_scopes.specs.Views.{socket_of}

pub order-end : (f : Frame) (home : Home) (names : Names) (copy i : ℕ) (ps : List code.Socket) (vs : List (Option Expr)) (b : Bound)
    → min (length ps) (length vs) ≤ i → by_order f home names copy (map socket_of (drop i ps)) (map (option_map tree_of) (drop i vs)) b ≡ Ok b
order-end f home names copy zero [] vs b few = refl
order-end f home names copy zero (p ∷ ps) [] b few = refl
order-end f home names copy zero (p ∷ ps) (v ∷ vs) b few = absurd (omega (arith, few))
order-end f home names copy (suc i) [] vs b few = refl
order-end f home names copy (suc i) (p ∷ ps) [] b few = nothing (map socket_of (drop i ps))
  where
    nothing : (ps : List Socket) → by_order f home names copy ps [] b ≡ Ok b
    nothing [] = refl
    nothing (p ∷ ps) = refl
order-end f home names copy (suc i) (p ∷ ps) (v ∷ vs) b few = order-end f home names copy i ps vs b (omega (arith, few))

-- a port more, with its value
abbrev value_wire : Option Tree → Option Wire
value_wire value = option_map_or (λ e. Some (wire_at e)) value None

order-step : (f : Frame) (home : Home) (names : Names) (copy i : ℕ) (ps : List code.Socket) (vs : List (Option Expr)) (p : code.Socket) (v : Option Expr) (b : Bound)
    → i < length ps → i < length vs
    → by_order f home names copy (map socket_of (drop i ps)) (map (option_map tree_of) (drop i vs)) b
    ≡ connection f home names copy (socket_of (get_or ps i p)) (value_wire (option_map tree_of (get_or vs i v))) b
    >>= by_order f home names copy (map socket_of (drop (suc i) ps)) (map (option_map tree_of) (drop (suc i) vs))
order-step f home names copy i [] vs p v b one other = absurd (omega (arith, one))
order-step f home names copy i (q ∷ ps) [] p v b one other = absurd (omega (arith, other))
order-step f home names copy zero (q ∷ ps) (w ∷ vs) p v b one other = refl
order-step f home names copy (suc i) (q ∷ ps) (w ∷ vs) p v b one other =
    order-step f home names copy i ps vs p v b (omega (arith, one)) (omega (arith, other))

pub order-on : (f : Frame) (home : Home) (names : Names) (copy i : ℕ) (ps : List code.Socket) (vs : List (Option Expr)) (p : code.Socket) (v : Option Expr) (b more : Bound)
    → i < length ps → i < length vs → connection f home names copy (socket_of (get_or ps i p)) (value_wire (option_map tree_of (get_or vs i v))) b ≡ Ok more
    → by_order f home names copy (map socket_of (drop (i + 1) ps)) (map (option_map tree_of) (drop (i + 1) vs)) more
    ≡ by_order f home names copy (map socket_of (drop i ps)) (map (option_map tree_of) (drop i vs)) b
order-on f home names copy i ps vs p v b more one other is =
    let next : i + 1 ≡ suc i = omega arith in
    ap (λ n. by_order f home names copy (map socket_of (drop n ps)) (map (option_map tree_of) (drop n vs)) more) next
    ∙ sym (order-step f home names copy i ps vs p v b one other
    ∙ ap (λ r. r >>= by_order f home names copy (map socket_of (drop (suc i) ps)) (map (option_map tree_of) (drop (suc i) vs))) is)

pub order-refused : (f : Frame) (home : Home) (names : Names) (copy i : ℕ) (ps : List code.Socket) (vs : List (Option Expr)) (p : code.Socket) (v : Option Expr) (b : Bound) (wrong : BindErr)
    → i < length ps → i < length vs → connection f home names copy (socket_of (get_or ps i p)) (value_wire (option_map tree_of (get_or vs i v))) b ≡ Err wrong
    → by_order f home names copy (map socket_of (drop i ps)) (map (option_map tree_of) (drop i vs)) b ≡ Err wrong
order-refused f home names copy i ps vs p v b wrong one other is =
    order-step f home names copy i ps vs p v b one other
    ∙ ap (λ r. r >>= by_order f home names copy (map socket_of (drop (suc i) ps)) (map (option_map tree_of) (drop (suc i) vs))) is

pub ruleset order_laws = (order-on, order-refused)

-- an instance without connections
nothing-joined : (f : Frame) (home : Home) (names : Names) (copy : ℕ) (ps : List Socket) (b : Bound) → by_order f home names copy ps [] b ≡ Ok b
nothing-joined f home names copy [] b = refl
nothing-joined f home names copy (p ∷ ps) b = refl

pub child-alone : (f : Frame) (home : Home) (names : Names) (ports : List Socket) (c : Child) (b : Bound) → c.connections ≡ None
    → child_of f home names ports (view.child_of c) b ≡ Ok b
child-alone f home names ports c b none =
    let own : Home = record { «module» = home.«module»; path = c.path; item = home.item } in
    ap (λ k. connected f own names (length b.places) ports (connections_if k) b) none ∙ nothing-joined f own names (length b.places) ports b
