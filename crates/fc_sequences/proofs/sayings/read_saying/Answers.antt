use Rattle.std.proofs.Common.{rules, ◌≡◌, ℕ, Bor, List, [], get_or, false, subst, ◌∙◌, sym, arith}
use Rattle.std.specs.Prelude.{map, codes, IfNone}
use Rattle.fc_sequences.proofs.SayingLemmas.{word_at, nine_words}
use Rattle.fc_sequences.specs.Saying.{SaysNoPair, pair_words}
use Rattle.fc_sequences.proofs.sayings.read_saying.Goals as goal
use Rattle.fc_sequences.proofs.sayings.read_saying.Goals.{then-ne-via-then-ne, then-ne-via-else-ne+then-ne-2, then-ne-via-else-ne+else-ne-2+then-ne-3}

pub returns-then-ne-clause-refused : goal.returns-then-ne-clause-refused
returns-then-ne-clause-refused c = λ p says.
    let d : Bor (List ℕ) = record { ref_ptr = (0, 0); now = [] } in
    let first : (get_or c.args.words.now 0 d).now ≡ codes "Move" = word_at c.args.words.now (pair_words p) 0 d says.1 (omega arith) in
    let fourth : (get_or c.args.words.now 3 d).now ≡ codes "from" = word_at c.args.words.now (pair_words p) 3 d says.1 (omega arith) in
    let seventh : (get_or c.args.words.now 6 d).now ≡ codes "to" = word_at c.args.words.now (pair_words p) 6 d says.1 (omega arith) in
    elim c.then-ne.branch [
      | then-ne-via-then-ne w ↦ let is : c.ne.result ≡ false = search rules in absurd (cc (is, w.if-ne.true))
      | then-ne-via-else-ne+then-ne-2 w ↦ let is : w.ne-else-ne.result ≡ false = search rules in absurd (cc (is, w.if-ne-2.true))
      | then-ne-via-else-ne+else-ne-2+then-ne-3 w ↦ let is : w.ne-else-ne-2.result ≡ false = search rules in absurd (cc (is, w.if-ne-3.true))
    ]

pub returns-in_err-count-clause-refused : goal.returns-in_err-count-clause-refused
returns-in_err-count-clause-refused c =
    let d : Bor (List ℕ) = record { ref_ptr = (0, 0); now = [] } in
    subst (λ r. IfNone r (SaysNoPair (map (λ (w : Bor (List ℕ)). w.now) c.args.words.now))) (sym c.from_residual.ensures)
    (λ p says. c.in_err-count.ensures.refused p.count says.0.count
    (word_at c.args.words.now (pair_words p) 1 d says.1 (omega arith)) (word_at c.args.words.now (pair_words p) 2 d says.1 (omega arith)))

pub returns-in_err-source-clause-refused : goal.returns-in_err-source-clause-refused
returns-in_err-source-clause-refused c =
    let d : Bor (List ℕ) = record { ref_ptr = (0, 0); now = [] } in
    subst (λ r. IfNone r (SaysNoPair (map (λ (w : Bor (List ℕ)). w.now) c.args.words.now))) (sym c.from_residual-in_err-source.ensures)
    (λ p says. c.in_err-source.ensures.refused p.from says.0.from
    (word_at c.args.words.now (pair_words p) 4 d says.1 (omega arith)) (word_at c.args.words.now (pair_words p) 5 d says.1 (omega arith)))

pub returns-in_err-target-clause-refused : goal.returns-in_err-target-clause-refused
returns-in_err-target-clause-refused c =
    let d : Bor (List ℕ) = record { ref_ptr = (0, 0); now = [] } in
    subst (λ r. IfNone r (SaysNoPair (map (λ (w : Bor (List ℕ)). w.now) c.args.words.now))) (sym c.from_residual-in_err-target.ensures)
    (λ p says. c.in_err-target.ensures.refused p.to says.0.to
    (word_at c.args.words.now (pair_words p) 7 d says.1 (omega arith)) (word_at c.args.words.now (pair_words p) 8 d says.1 (omega arith)))

pub returns-clause-read : goal.returns-clause-read
returns-clause-read c =
    let d : Bor (List ℕ) = record { ref_ptr = (0, 0); now = [] } in
    let nine = nine_words c.args.words.now d c.in-len9.len_at_least c.in-len9.len_below in
    let first : (get_or c.args.words.now 0 d).now ≡ codes "Move" = search rules in
    let fourth : (get_or c.args.words.now 3 d).now ≡ codes "from" = search rules in
    let seventh : (get_or c.args.words.now 6 d).now ≡ codes "to" = search rules in
    let (count, number, cards) = c.in_ok-count.ensures.read in
    let (from, kind, name) = c.in_ok-source.ensures.read in
    let (to, last_kind, last_name) = c.in_ok-target.ensures.read in
    (record { from = from; to = to; count = count }, nine ∙ cc (first, number, cards, fourth, kind, name, seventh, last_kind, last_name))
