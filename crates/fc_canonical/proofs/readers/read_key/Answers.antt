use Rattle.std.proofs.Common.{◌≡◌, true, ◌∙◌, rules}
use Rattle.fc_canonical.proofs.ReadLemmas.{read_begins, read_refused}
use Rattle.fc_canonical.proofs.readers.read_key.Goals as goal

pub returns-then-eq-clause-read : goal.returns-then-eq-clause-read
returns-then-eq-clause-read c =
    let same : c.key.result.items ≡ c.in_ok-front.front.now = search rules in
    read_begins c.args.bytes.now c.in_ok-position.position c.in_ok-position.extent c.in_ok-front.front.now c.key.result.items
    c.in_ok-position.ensures.read.0 c.in_ok-position.ensures.read.1 c.in_ok-position.ensures.read.2 c.in_ok-front.ensures.found.1
    c.key.ensures.value same

pub returns-else-eq-clause-refused : goal.returns-else-eq-clause-refused
returns-else-eq-clause-refused c =
    let other : c.key.result.items ≡ c.in_ok-front.front.now → ⊥ = λ e.
    let shown : c.as_slice.result.now ≡ c.in_ok-front.front.now = c.as_slice.ensures.value ∙ e in
    let yes : c.eq.result ≡ true = search rules in cc in
    read_refused c.args.bytes.now c.in_ok-position.position c.in_ok-position.extent c.in_ok-front.front.now c.key.result.items
    c.in_ok-position.ensures.read.0 c.in_ok-position.ensures.read.1 c.in_ok-position.ensures.read.2 c.in_ok-front.ensures.found.1
    c.key.ensures.value other
