use Rattle.std.proofs.Common.{◌≡◌, None, sym, ◌∙◌}
use Rattle.loc_base.proofs.ShelfOptions.{is_some-false}
use Rattle.vcd_reading.specs.NameView.{number_at}
use Rattle.vcd_reading.specs.declared.names.Key.{Key}
use Rattle.vcd_reading.proofs.NameLaws.{first_set}
use Rattle.vcd_reading.proofs.names.Names.add.Goals as goal

pub returns : goal.returns
returns c scope name =
    let key : Key = record { scope = scope; name = record { ref_ptr = (0, 0); now = name } } in
    let none : number_at c.args.self.now c.args.key.scope c.args.key.name.now ≡ None =
    is_some-false (number_at c.args.self.now c.args.key.scope c.args.key.name.now) (sym c.contains_key.ensures ∙ c.if-contains_key.false) in
    first_set (number_at c.args.self.now) _ c.args.key.scope c.args.key.name.now c.args.number scope name none
    (c.in_ok-insert.ensures.updates.0 key)
