use Rattle.std.proofs.Common.{◌≡◌, ℕ, List, ◌++◌, map, Some, None, All, ◌∙◌, ap, sym, subst}
use Rattle.std.specs.Option.{option_copied, option_to_list}
use Rattle.loc_base.specs.Name.{IsName}
use Rattle.aiger_text.specs.Content.{content_of}
use Rattle.aiger_rules.specs.Names.{port_name}
use Rattle.aiger_rules.specs.Ports.{port_line, port_lines, port_names, rows_without}
use Rattle.aiger_rules.specs.Naming.{lesser, IsLeastOf, IsMisnaming}
use Rattle.aiger_rules.proofs.NamingSteps.{misnaming}
use Rattle.aiger_rules.specs.Doubles.{OwnDiffer}
use Rattle.aiger_rules.proofs.DoubleSteps.{ports-differ}
use Rattle.aiger_rules.proofs.NameLaws.{ports-named}
use Rattle.aiger_rules.proofs.naming.check_names.Goals as goal

pub returns-in-Some-clause-err : goal.returns-in-Some-clause-err
returns-in-Some-clause-err c =
    let w = content_of c.args.content.now in
    let clock = option_copied c.args.clock in
    let named : c.in_ok-names.names ≡ port_names w clock =
    c.in_ok-names.ensures.same ∙ ap (λ (o : ℕ). option_to_list clock ++ map (port_name w) (rows_without w.counts o)) c.in_ok-left_out.ensures.row in
    let lined : c.deref.result.now ≡ port_lines w clock =
    c.deref.ensures.value ∙ c.in_ok-lines.ensures
    ∙ ap (λ (o : ℕ). map (λ (_ : List ℕ). 1) (option_to_list clock) ++ map (port_line w) (rows_without w.counts o)) c.in_ok-left_out.ensures.row in
    let is : lesser c.least_misplaced.result c.in_ok-double.double ≡ Some c.in-Some.line = sym c.lesser.ensures ∙ c.in-Some.is in
    subst (IsLeastOf (IsMisnaming w clock)) is
    (misnaming w clock c.in_ok-names.names c.deref.result.now c.least_misplaced.result c.in_ok-double.double named lined c.least_misplaced.ensures c.in_ok-double.ensures)

pub returns-clause-well : goal.returns-clause-well
returns-clause-well c =
    let w = content_of c.args.content.now in
    let clock = option_copied c.args.clock in
    let named : c.in_ok-names.names ≡ port_names w clock =
    c.in_ok-names.ensures.same ∙ ap (λ (o : ℕ). option_to_list clock ++ map (port_name w) (rows_without w.counts o)) c.in_ok-left_out.ensures.row in
    let lined : c.deref.result.now ≡ port_lines w clock =
    c.deref.ensures.value ∙ c.in_ok-lines.ensures
    ∙ ap (λ (o : ℕ). map (λ (_ : List ℕ). 1) (option_to_list clock) ++ map (port_line w) (rows_without w.counts o)) c.in_ok-left_out.ensures.row in
    let is : lesser c.least_misplaced.result c.in_ok-double.double ≡ None = sym c.lesser.ensures ∙ c.in-None.is in
    subst (IsLeastOf (IsMisnaming w clock)) is
    (misnaming w clock c.in_ok-names.names c.deref.result.now c.least_misplaced.result c.in_ok-double.double named lined c.least_misplaced.ensures c.in_ok-double.ensures)

pub returns-clause-named : goal.returns-clause-named
returns-clause-named c =
    let w = content_of c.args.content.now in
    let clock = option_copied c.args.clock in
    let named : c.in_ok-names.names ≡ port_names w clock =
    c.in_ok-names.ensures.same ∙ ap (λ (o : ℕ). option_to_list clock ++ map (port_name w) (rows_without w.counts o)) c.in_ok-left_out.ensures.row in
    let lined : c.deref.result.now ≡ port_lines w clock =
    c.deref.ensures.value ∙ c.in_ok-lines.ensures
    ∙ ap (λ (o : ℕ). map (λ (_ : List ℕ). 1) (option_to_list clock) ++ map (port_line w) (rows_without w.counts o)) c.in_ok-left_out.ensures.row in
    let is : lesser c.least_misplaced.result c.in_ok-double.double ≡ None = sym c.lesser.ensures ∙ c.in-None.is in
    let well = subst (IsLeastOf (IsMisnaming w clock)) is
    (misnaming w clock c.in_ok-names.names c.deref.result.now c.least_misplaced.result c.in_ok-double.double named lined c.least_misplaced.ensures c.in_ok-double.ensures) in
    let P : List (List ℕ) → Type 0 = λ names. All IsName names in
    subst P (sym c.in_ok-names.ensures.same)
    (ports-named w clock c.in_ok-left_out.left_out well c.in_ok-names.ensures.named c.in_ok-names.ensures.low c.in_ok-left_out.ensures.within)

pub least_double-requires-clause-differ : goal.least_double-requires-clause-differ
least_double-requires-clause-differ c =
    let w = content_of c.args.content.now in
    let clock = option_copied c.args.clock in
    let P : List (List ℕ) → Type 0 = λ names. OwnDiffer c.rows.result names c.deref.result.now in
    let Q : List ℕ → Type 0 =
    λ lines. OwnDiffer c.rows.result (option_to_list clock ++ map (port_name w) (rows_without w.counts c.in_ok-left_out.left_out)) lines in
    let R : ℕ → Type 0 = λ rows. OwnDiffer rows (option_to_list clock ++ map (port_name w) (rows_without w.counts c.in_ok-left_out.left_out))
    (map (λ (_ : List ℕ). 1) (option_to_list clock) ++ map (port_line w) (rows_without w.counts c.in_ok-left_out.left_out)) in
    subst P (sym c.in_ok-names.ensures.same) (subst Q (sym (c.deref.ensures.value ∙ c.in_ok-lines.ensures))
    (subst R (sym c.rows.ensures.count) (ports-differ w clock c.in_ok-left_out.left_out c.in_ok-left_out.ensures.within c.in_ok-names.ensures.low)))
