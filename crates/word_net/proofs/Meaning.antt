-- What nodes stand for stays as a net grows, and a new node has its value over the nodes that are there.
use Rattle.std.proofs.Common.{◌≡◌, ℕ, zero, suc, ◌+◌, ◌<◌, List, [], ◌∷◌, ◌++◌, length, get_or, Some, refl, sym, ◌∙◌, ap, subst, arith, append_assoc, append-nil, length-append}
use Rattle.std.specs.Prelude.{slice_get}
use Rattle.std.proofs.lemmas.Option.{slice_get_within}
use Rattle.std.proofs.lemmas.List.{get_or_append_left}
use Rattle.std.proofs.Math.Seq.{get_or-append_seam}
use Rattle.word_net.specs.declared.node.Operation.{Operation}
use Rattle.word_net.specs.declared.node.WordNode.{WordNode}
use Rattle.word_net.specs.Values.{Source, word_value, operation_value, values}
use Rattle.word_net.specs.Fits.{OperationFits, NodeFits, AllFit, widths_of}
use Rattle.word_net.specs.Build.{pushed, Means, Grown, Gives}
use Rattle.design_core.specs.WellFormed.{is_width}
use Rattle.std.specs.Prelude.{IsTrue}

-- ---- values

pub values-append : (e : Source) (known : List ℕ) (before after : List WordNode) → values e known (before ++ after) ≡ values e (values e known before) after
unfolding values
values-append e known [] after = refl
values-append e known (node ∷ before) after = values-append e (known ++ word_value e known node ∷ []) before after

pub length-values : (e : Source) (known : List ℕ) (nodes : List WordNode) → length (values e known nodes) ≡ length known + length nodes
unfolding values
length-values e known [] = omega arith
length-values e known (node ∷ nodes) =
    let v = word_value e known node in
    omega (arith, length-values e (known ++ v ∷ []) nodes, length-append known (v ∷ []))

pub length-values_first : (e : Source) (nodes : List WordNode) → length (values e [] nodes) ≡ length nodes
length-values_first e nodes = omega (arith, length-values e [] nodes)

-- the values that are known stay
pub values-at : (e : Source) (known : List ℕ) (nodes : List WordNode) (i : ℕ) → i < length known → get_or (values e known nodes) i 0 ≡ get_or known i 0
unfolding values
values-at e known [] i within = refl
values-at e known (node ∷ nodes) i within =
    let v = word_value e known node in
    values-at e (known ++ v ∷ []) nodes i (omega (arith, length-append known (v ∷ [])))
    ∙ get_or_append_left known (v ∷ []) 0 i within

-- ---- nodes that are there

widths-append : (before after : List WordNode) → widths_of (before ++ after) ≡ widths_of before ++ widths_of after
widths-append [] after = refl
widths-append (node ∷ before) after = ap (λ ws. node.width ∷ ws) (widths-append before after)

slice_get-left : (xs ys : List ℕ) (i x : ℕ) → slice_get xs i ≡ Some x → slice_get (xs ++ ys) i ≡ Some x
slice_get-left [] ys i x is = absurd (omega (arith, slice_get_within [] i x is))
slice_get-left (y ∷ xs) ys zero x is = is
slice_get-left (y ∷ xs) ys (suc i) x is = slice_get-left xs ys i x is

slice_get-seam : (xs : List ℕ) (x : ℕ) → slice_get (xs ++ x ∷ []) (length xs) ≡ Some x
slice_get-seam [] x = refl
slice_get-seam (y ∷ xs) x = slice_get-seam xs x

pub length-widths : (nodes : List WordNode) → length (widths_of nodes) ≡ length nodes
length-widths [] = refl
length-widths (node ∷ nodes) = ap suc (length-widths nodes)

there-within : (nodes : List WordNode) (node width : ℕ) → slice_get (widths_of nodes) node ≡ Some width → node < length nodes
there-within nodes node width there = omega (arith, slice_get_within (widths_of nodes) node width there, length-widths nodes)

-- a node that is there has a number below theirs
pub means-within : {e : Source} {nodes : List WordNode} {node width value : ℕ} → Means e nodes node width value → node < length nodes
means-within {e} {nodes} {node} {width} m = there-within nodes node width m.there

-- a node keeps its width and its value as the net grows
pub keep : {e : Source} {before after : List WordNode} {node width value : ℕ} → Grown before after → Means e before node width value → Means e after node width value
keep {e} {before} {after} {node} {width} {value} grown m =
    let known = values e [] before in
    let within : node < length known = omega (arith, there-within before node width m.there, length-values_first e before) in
    rw grown.is record {
      there = subst (λ ws. slice_get ws node ≡ Some width) (sym (widths-append before grown.more)) (slice_get-left (widths_of before) (widths_of grown.more) node width m.there);
      is = ap (λ v. get_or v node 0) (values-append e [] before grown.more) ∙ values-at e known grown.more node within ∙ m.is;
    }

pub grown-none : (nodes : List WordNode) → Grown nodes nodes
grown-none nodes = record { more = []; is = sym (append-nil nodes); fit = λ f. f }

pub grown-then : {a b c : List WordNode} → Grown a b → Grown b c → Grown a c
grown-then {a} {b} {c} first next = record {
  more = first.more ++ next.more;
  is = next.is ∙ ap (λ x. x ++ next.more) first.is ∙ append_assoc a first.more next.more;
  fit = λ f. next.fit (first.fit f);
}

-- ---- a new node

AllFit-push : (widths : List ℕ) (nodes : List WordNode) (node : WordNode) → AllFit widths nodes → NodeFits (widths ++ widths_of nodes) node → AllFit widths (nodes ++ node ∷ [])
AllFit-push widths [] node before fits = (subst (λ ws. NodeFits ws node) (append-nil widths) fits, tt)
AllFit-push widths (first ∷ nodes) node before fits =
    (before.0, AllFit-push (widths ++ first.width ∷ []) nodes node before.1 (subst (λ ws. NodeFits ws node) (sym (append_assoc widths (first.width ∷ []) (widths_of nodes))) fits))

-- a new node means its value over the nodes that are there
pub pushed-gives : (e : Source) (nodes : List WordNode) (width : ℕ) (operation : Operation) (v : ℕ) → IsTrue (is_width width)
    → OperationFits (widths_of nodes) width operation → operation_value e (values e [] nodes) width operation ≡ v
    → Gives e nodes (pushed nodes width operation) width v
unfolding pushed values word_value
pushed-gives e nodes width operation v wide fits value =
    let node : WordNode = record { width = width; operation = operation } in
    let known = values e [] nodes in
    let w = operation_value e known width operation in
    record {
      grown = record {
        more = node ∷ [];
        is = refl;
        fit = λ f. AllFit-push [] nodes node f (record { width = wide; operation = fits });
      };
      means = record {
        there = subst (λ ws. slice_get ws (length nodes) ≡ Some width) (sym (widths-append nodes (node ∷ [])))
            (subst (λ n. slice_get (widths_of nodes ++ width ∷ []) n ≡ Some width) (length-widths nodes) (slice_get-seam (widths_of nodes) width));
        is = ap (λ v. get_or v (length nodes) 0) (values-append e [] nodes (node ∷ []))
            ∙ ap (λ n. get_or (known ++ w ∷ []) n 0) (sym (length-values_first e nodes))
            ∙ get_or-append_seam known w [] 0 ∙ value;
      };
    }
