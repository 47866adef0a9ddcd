use Rattle.io_ports.proofs.file_shelf.FileShelf.append.Goals as goal

pub returns-clause-taken : goal.returns-clause-taken
returns-clause-taken g c = record {
  before = c.in_ok-text.text;
  is_open = c.in_ok-text.ensures.taken;
  named = c.in_ok-text.ensures.taken.named;
  taken = c.in_default.ensures.taken;
}
