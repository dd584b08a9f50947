use Rattle.std.proofs.Common.{◌≡◌, ◌*◌, ◌%◌, ◌^◌, Some, Option, ℕ, get_or, set, bit_or, sym, ◌∙◌, ap, arith}
use Rattle.std.specs.Int.{bit_at}
use Rattle.std.specs.Option.{option_copied}
use Rattle.fc_cards.specs.Card.{rank}
use Rattle.fc_canonical.proofs.TakerLemmas.{noted, noted_kept}
use Rattle.fc_canonical.proofs.distinct.note_last.Goals as goal

pub returns-clause-last : goal.returns-clause-last
returns-clause-last c l is =
    let lasts = c.args.lasts.now in
    let r = c.rank.result in
    let j = c.args.j in
    let same : ◌≡◌ {A = Option ℕ} (Some l) (Some c.in-Some.card.now) =
    sym is ∙ sym c.last.ensures.value ∙ ap option_copied c.in-Some.is in
    let card : l ≡ c.in-Some.card.now = cc same in
    ap (λ k. bit_at (get_or (set lasts r (bit_or (get_or lasts r 0) (1 * 2 ^ j % 2 ^ 8))) k 0) j)
    (ap rank card ∙ sym c.rank.ensures.value)
    ∙ noted lasts r j (omega (arith, c.requires.count, c.rank.ensures.within)) c.requires.there

pub returns-clause-kept : goal.returns-clause-kept
returns-clause-kept c q i is =
    noted_kept c.args.lasts.now c.rank.result (1 * 2 ^ c.args.j % 2 ^ 8)
    (omega (arith, c.requires.count, c.rank.ensures.within)) q i is
