use Rattle.std.proofs.Common.{◌≡◌, ℕ, List, codes, ap, append_assoc}
use Rattle.map_grammar.specs.Spelling.{between, alone}
use Rattle.map_grammar.proofs.spell.put_config.Goals as goal

pub returns : goal.returns
returns c =
    let names : between (codes ",") alone c.items.result.now ≡ between (codes ",") alone c.args.names.now = ap (λ (ns : List (List ℕ)). between (codes ",") alone ns) c.items.ensures in
    rw (c.in_ok-put_names.ensures, names, c.in_ok-put_attributes.ensures, c.in_ok-put.ensures) (simp append_assoc)
