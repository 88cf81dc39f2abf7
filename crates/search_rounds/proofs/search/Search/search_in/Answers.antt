-- The queue is empty and nothing is known of any node, and both have room for the network: so the search may begin.
use Rattle.std.proofs.Common.{rules}
use Rattle.search_rounds.proofs.search.Search.search_in.Goals as goal

pub search-requires : goal.search-requires
search-requires g c =
    search (rules, c.no_keys-tree.ensures, c.unknown-unfound.ensures)
