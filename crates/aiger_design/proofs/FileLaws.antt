-- What holds of a text's design.
use Rattle.std.proofs.Common.{◌≡◌, ℕ, ◌≤◌, ◌<◌, true, false, List, length, map, Option, Some, None, cond, Bool, refl, sym, ◌∙◌, ap, subst, arith}
use Rattle.std.specs.Option.{option_and_then, option_to_list}
use Rattle.std.specs.Prelude.{unwrap_or}
use Rattle.std.proofs.lemmas.Bool.{false≢true}
use Rattle.std.proofs.lemmas.List.{length-append}
use Rattle.std.proofs.lemmas.List.FromFn.{length-range_with_len, length-map-range_with_len}
use Rattle.design_core.specs.declared.design.Design.{Design}
use Rattle.aiger_text.specs.declared.fault.AigerErr.TheVariants.{TooLong, Header, Shape, Literal, Naming, Places, NoMemory}
use Rattle.aiger_text.specs.Rows.{first_latch, first_output, first_and}
use Rattle.aiger_text.specs.Content.{Content}
use Rattle.aiger_text.specs.Laws as text
use Rattle.aiger_rules.specs.Laws as rules
use Rattle.aiger_rules.specs.Literals.{IsUsedWell}
use Rattle.aiger_rules.specs.Naming.{IsNamedWell}
use Rattle.std.specs.Str.{bytes_eq}
use Rattle.std.specs.List.{range_with_len}
use Rattle.aiger_rules.specs.Names.{port_name}
use Rattle.aiger_rules.specs.Ports.{input_named, unread, left_out, port_names}
use Rattle.aiger_design.proofs.Lists.{first_at-below}
use Rattle.aiger_design.specs.Numbering.{first_result, is_too_large, numbering_of, IsSmall}
use Rattle.aiger_design.specs.Drivers.{and_driver, output_driver, latch_block}
use Rattle.aiger_design.specs.File.{IsDesignOf}
use Rattle.aiger_design.specs.Means.{IsFile}
use Rattle.aiger_design.specs.Laws.{AreAlike, OneDesign, NoRefusal, FileIsWellFormed, FileIsDrivenOnce, FileIsNotTooLarge}
use Rattle.aiger_design.proofs.FileNumbers.{is-small, is-handled}
use Rattle.aiger_design.proofs.Once.{driven-once}
use Rattle.aiger_design.proofs.Fits.{signals-bits, places-are, well-formed}
use Rattle.aiger_design.proofs.Sections.{has-signals}

-- one clock at most
one-clock : (clock : Option (List ℕ)) → length (option_to_list clock) ≤ 1
one-clock None = omega arith
one-clock (Some name) = omega arith

-- the row that is left out is at most the number of inputs
out-within : (w : Content) (clock : Option (List ℕ)) → left_out w clock ≤ w.counts.inputs
out-within w None = omega arith
out-within w (Some name) = at (input_named w name) refl
  where
    chosen : (row : ℕ) → row < w.counts.inputs → (o : Option ℕ) → unread w row ≡ o → unwrap_or o w.counts.inputs ≤ w.counts.inputs
    chosen row below None is = omega arith
    chosen row below (Some own) is = omega (arith, below, own-is row own is)
      where
        own-is : (row own : ℕ) → unread w row ≡ Some own → row ≡ own
        own-is row own same = kept _ same
          where
            kept : (b : Bool) → (cond b None (Some row)) ≡ Some own → row ≡ own
            kept true same = cc
            kept false same = cc

    at : (o : Option ℕ) → input_named w name ≡ o → unwrap_or (option_and_then (unread w) o) w.counts.inputs ≤ w.counts.inputs
    at None is = omega arith
    at (Some row) is = chosen row (omega (arith, first_at-below (λ k. bytes_eq (port_name w k) name) 0 w.counts.inputs row is)) (unread w row) refl

-- the numbers of a text's design are small
file-small : (text top : List ℕ) (clock : Option (List ℕ)) (d : Design) (file : IsFile text top clock d) → IsSmall (numbering_of file.content clock)
file-small text top clock d file =
    is-small file.content clock (numbering_of file.content clock) refl (one-clock clock) (out-within file.content clock) file.fits

pub file-well-formed : FileIsWellFormed
file-well-formed text top clock d file =
    let w = file.content in
    well-formed w.rows (numbering_of w clock) (port_names w clock) top d file.is
    (has-signals _ w (numbering_of w clock) file.has.has.has.written.behind.rows refl (file-small text top clock d file) file.has.has.used)

pub file-driven-once : FileIsDrivenOnce
file-driven-once text top clock d file =
    let w = file.content in driven-once w.rows (numbering_of w clock) (port_names w clock) top d file.is

pub file-not-too-large : FileIsNotTooLarge
file-not-too-large text top clock d file =
    let w = file.content in
    let n = numbering_of w clock in
    let handled = is-handled n file.fits in
    let bits = signals-bits w.rows n (port_names w clock) in
    let are = places-are w.rows n top in
    record {
      signals = omega (arith, ap length file.is.signals, bits.long, handled.signals);
      places = omega (arith, ap length file.is.places, are.long, handled.places);
      drivers = omega (
        arith,
        ap length file.is.drivers,
        ap length file.is.clocked,
        length-append (map (and_driver w.rows n) (range_with_len (first_and w.counts) w.counts.ands))
            (map (output_driver w.rows n) (range_with_len (first_output w.counts) w.counts.outputs)),
        length-map-range_with_len (and_driver w.rows n) (first_and w.counts) w.counts.ands,
        length-map-range_with_len (output_driver w.rows n) (first_output w.counts) w.counts.outputs,
        length-map-range_with_len (latch_block w.rows n) (first_latch w.counts) w.counts.latches,
        handled.drivers,
      );
      outputs = omega (arith, ap length file.is.outputs, length-range_with_len (first_result n) w.counts.outputs, handled.signals);
    }

-- two designs by the same lists
alike : (w : Content) (top : List ℕ) (clock : Option (List ℕ)) (d e : Design) → IsDesignOf w top clock d → IsDesignOf w top clock e → AreAlike d e
alike w top clock d e one other = record {
  signals = one.signals ∙ sym other.signals;
  drivers = one.drivers ∙ sym other.drivers;
  clocked = one.clocked ∙ sym other.clocked;
  places = one.places ∙ sym other.places;
  inputs = one.inputs ∙ sym other.inputs;
  outputs = one.outputs ∙ sym other.outputs;
}

pub one-design : text.OneContent → OneDesign
one-design content text top clock d e one other =
    let same : other.content ≡ one.content = content text other.content one.content other.has.has.has.written one.has.has.has.written in
    alike one.content top clock d e one.is (subst (λ w. IsDesignOf w top clock e) same other.is)

pub no-refusal : text.OneContent → text.NoRefusal → rules.NoRefusal → rules.NoMisnaming → NoRefusal
no-refusal content shape literals names text top clock d TooLong file cause =
    shape text file.content TooLong file.has.has.has.short file.has.has.has.written cause
no-refusal content shape literals names text top clock d Header file cause =
    shape text file.content Header file.has.has.has.short file.has.has.has.written cause
no-refusal content shape literals names text top clock d (Shape line) file cause =
    shape text file.content (Shape line) file.has.has.has.short file.has.has.has.written cause
no-refusal content shape literals names text top clock d (Literal line) file cause =
    let same : file.content ≡ cause.content = content text file.content cause.content file.has.has.has.written cause.has.written in
    literals cause.content (Literal line) (subst IsUsedWell same file.has.has.used) cause.refused
no-refusal content shape literals names text top clock d (Naming line) file cause =
    let same : file.content ≡ cause.content = content text file.content cause.content file.has.has.has.written cause.has.has.written in
    names cause.content clock (Naming line) (subst (λ w. IsNamedWell w clock) same file.has.named) cause.refused
no-refusal content shape literals names text top clock d Places file cause =
    let same : file.content ≡ cause.content = content text file.content cause.content file.has.has.has.written cause.has.has.has.written in
    absurd (false≢true (sym (subst (λ w. is_too_large (numbering_of w clock) ≡ false) same file.fits) ∙ cause.refused))
no-refusal content shape literals names text top clock d NoMemory file cause = refl
