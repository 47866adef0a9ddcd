use Rattle.report_doc.proofs.Plain.{only_text}
use Rattle.report_reading.proofs.laws.same_report.Goals as goal

pub returns : goal.returns
returns g c =
    only_text g.of.other g.of.one g.of.text c.requires.1.report c.requires.0.report c.requires.1.json c.requires.0.json
