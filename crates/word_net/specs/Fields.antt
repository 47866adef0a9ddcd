-- How the fields of a net stand for what contracts see of it; only private contracts cite it.
use Rattle.word_net.specs.declared.net.WordNet.TheInside.{Inside}
use Rattle.word_net.specs.Nets.{Net}

abbrev pub net_of : Inside → Net
net_of a = record { nodes = a.nodes.items; outputs = a.outputs.items; next = a.next.items; start = a.start.items }
