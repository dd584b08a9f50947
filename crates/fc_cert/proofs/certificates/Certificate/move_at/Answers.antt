use Rattle.std.proofs.Common.{◌≡◌, ◌+◌, ◌-◌, ◌*◌, ◌<◌, ◌≤◌, length, take, drop, get_or, Some, sym, ◌∙◌, ap, subst, arith}
use Rattle.std.specs.Prelude.{IfSome, slice_get}
use Rattle.std.proofs.lemmas.Option.{slice_get-get_or}
use Rattle.fc_canonical.proofs.ReadLemmas.{surely}
use Rattle.fc_cards.specs.declared.places.Place.TheVariants.{Home}
use Rattle.fc_moves.specs.declared.steps.Move.{Move}
use Rattle.fc_moves.specs.MoveText.{move_text, HasText}
use Rattle.fc_cert.specs.Layout.{content_of}
use Rattle.fc_cert.proofs.LayoutLemmas.{bytes_many, has_text, text_at}
use Rattle.fc_cert.proofs.OnceLemmas.{move_once}
use Rattle.fc_cert.proofs.certificates.Certificate.move_at.Goals as goal

pub slice_bounds-read_move-end : goal.slice_bounds-read_move-end
slice_bounds-read_move-end c =
    let s = c.self.inside in
    let content = content_of s.head s.texts.now s.records.now s.ends.items in
    let long = bytes_many content s.texts.now s.records.now s.ends.items c.self.invariant.0 in
    let within = subst (λ v. c.args.i < length v.moves) (sym c.self.view_is) c.requires.within in
    let le : c.args.i * 2 + 2 ≤ length s.texts.now = omega (arith, long, within) in
    le

pub unwrap-requires : goal.unwrap-requires
unwrap-requires c =
    let s = c.self.inside in
    let i = c.args.i in
    let content = content_of s.head s.texts.now s.records.now s.ends.items in
    let within = subst (λ v. i < length v.moves) (sym c.self.view_is) c.requires.within in
    let d : Move = record { from = Home; to = Home } in
    let two : i * 2 + 2 - i * 2 ≡ 2 = omega arith in
    let text = ap (λ k. take k (drop (i * 2) s.texts.now)) two
    ∙ text_at content s.texts.now s.records.now s.ends.items c.self.invariant.0 i d within in
    surely c.read_move.result _ c.read_move.ensures.refused
    (λ none. none (get_or content.moves i d) (has_text content s.texts.now s.records.now s.ends.items c.self.invariant.0 i d within) text)

pub returns : goal.returns
returns c =
    let s = c.self.inside in
    let i = c.args.i in
    let content = content_of s.head s.texts.now s.records.now s.ends.items in
    let within = subst (λ v. i < length v.moves) (sym c.self.view_is) c.requires.within in
    let d : Move = record { from = Home; to = Home } in
    let two : i * 2 + 2 - i * 2 ≡ 2 = omega arith in
    let here = take (i * 2 + 2 - i * 2) (drop (i * 2) s.texts.now) in
    let text = ap (λ k. take k (drop (i * 2) s.texts.now)) two
    ∙ text_at content s.texts.now s.records.now s.ends.items c.self.invariant.0 i d within in
    let read = subst (λ o. IfSome o (λ m. HasText m × (here ≡ move_text m))) c.unwrap.ensures c.read_move.ensures.read in
    let same = move_once here (get_or content.moves i d) c.unwrap.result
    (text, has_text content s.texts.now s.records.now s.ends.items c.self.invariant.0 i d within) (read.1, read.0) in record {
      value = subst (λ v. slice_get v.moves i ≡ Some c.unwrap.result) c.self.view_is
          (slice_get-get_or content.moves i d within ∙ ap (λ m. Some m) same);
    }
