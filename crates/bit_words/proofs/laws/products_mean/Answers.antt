use Rattle.bit_words.proofs.ProductLaws.{product-law}
use Rattle.bit_words.proofs.laws.products_mean.Goals as goal

pub returns : goal.returns
returns g c = product-law c.requires.0 c.requires.1.0 c.requires.1.1
