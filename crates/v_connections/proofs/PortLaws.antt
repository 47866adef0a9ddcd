-- The first connection that has no port is the one at the place of as many as there are ports.
use Rattle.std.proofs.Common.{◌≡◌, ℕ, List, [], ◌∷◌, length, map, refl, sym, ap, ◌∙◌}
use Rattle.std.specs.Prelude.{Option, Some, None, option_map, slice_get}
use Rattle.std.proofs.lemmas.Option.{slice_get-map}
use Rattle.loc_base.specs.declared.span.Span.{Span}
use Rattle.v_syntax.specs.declared.expression.Expr.{Expr}
use Rattle.v_syntax.specs.Tree.{Tree, tree_of}
use Rattle.v_hierarchy.specs.Items.{few}
use Rattle.v_connections.specs.Connected.{past_ports}

few-past : (span : Span) (ports : List (List ℕ)) (values : List (Option Tree)) → few span ports values ≡ past_ports span (slice_get values (length ports))
few-past span ports [] = refl
few-past span (p ∷ ps) (v ∷ vs) = few-past span ps vs
few-past span [] (Some e ∷ vs) = refl
few-past span [] (None ∷ vs) = refl

pub few-is : (span : Span) (ports : List (List ℕ)) (values : List (Option Expr)) (count : ℕ) → count ≡ length ports
    → few span ports (map (option_map tree_of) values) ≡ past_ports span (option_map (option_map tree_of) (slice_get values count))
few-is span ports values count is =
    few-past span ports (map (option_map tree_of) values)
    ∙ ap (λ n. past_ports span (slice_get (map (option_map tree_of) values) n)) (sym is)
    ∙ ap (past_ports span) (slice_get-map (option_map tree_of) values count)
