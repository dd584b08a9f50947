-- Bytes that are written piece by piece.
use Rattle.std.proofs.Common.{◌≡◌, ℕ, ◌+◌, ◌<◌, ◌≤◌, Bool, true, false, List, [], ◌∷◌, ◌++◌, length, get_or, take, drop, Option, refl, sym, ◌∙◌, ap, subst, append_assoc, append-nil, take-append-drop}
use Rattle.std.specs.Prelude.{Result, Ok, Err, OnOk, IsTrue, IsErr, IsErrAnd, ◌↔◌, Some, MatchOption, slice_get}
use Rattle.std.specs.List.{flat_map}
use Rattle.std.proofs.lemmas.List.{take_more, take_all}
use Rattle.std.proofs.lemmas.List.Concat.{flat_map-append}
use Rattle.std.proofs.lemmas.Option.{get_or_from_slice_get}
use Rattle.fc_io.specs.declared.devices.Failed.{Failed}
use Rattle.fc_io.specs.Moves.{TakesBytes, TakesFront, Stays}
use Rattle.fc_io.proofs.MoveLemmas.{TakesBytes-both, takes_then_front, sound_at_ok}
use Rattle.fc_moves.specs.declared.steps.Move.{Move}
use Rattle.fc_moves.specs.GameRules.{GameRules}
use Rattle.fc_answers.specs.declared.answers.Answer.{Answer}
use Rattle.fc_answers.specs.declared.answers.Verdict.{Verdict}
use Rattle.fc_answers.specs.declared.answers.Verdict.TheVariants as verdict
use Rattle.fc_answers.specs.Table.{Listing}
use Rattle.fc_cert.specs.declared.contents.Form.{Form}
use Rattle.fc_cert.specs.declared.contents.Form.TheVariants.{Third}
use Rattle.fc_cert.specs.declared.contents.Head.{Head}
use Rattle.fc_cert.specs.declared.contents.Kind.{Kind}
use Rattle.fc_cert.specs.declared.contents.Kind.TheVariants as kind
use Rattle.fc_cert.specs.declared.faults.CertFault.{CertFault}
use Rattle.fc_cert.specs.declared.faults.CertFault.TheVariants.{Write}
use Rattle.fc_cert.specs.Claim.{IsWrittenAs, IsWrittenWith, written_form, written_head}
use Rattle.fc_cert.specs.Content.{Content, magic, bound_byte, kind_byte, floor_bytes, head_bytes, bytes_of}
use Rattle.fc_cert.specs.Writing.{SinkState, TakesWhole, IsCutShort, WritesAnswer}
use Rattle.fc_cert.specs.inner.Writing.{Writes, Gathers}

-- what `write_all` says of a piece that was written
pub whole_piece : {old new : Option (List ℕ)} {was is : Bool} {piece : List ℕ} → TakesBytes old new piece → (IsTrue is → false ≡ true)
    → (IsTrue was → false ≡ true) → TakesWhole (record { held = old; has_failed = was }) (record { held = new; has_failed = is }) piece
whole_piece {old} {new} {was} {is} {piece} taken fault stays = record {
  taken = taken;
  was_sound = sound_at_ok was stays;
  is_sound = sound_at_ok is fault;
}

-- what it says of one at which the sink failed
pub cut_piece : {old new : Option (List ℕ)} {was is : Bool} {piece : List ℕ} → TakesFront old new piece → (true ≡ true → IsTrue is)
    → (IsTrue was → Stays old new) → IsCutShort (record { held = old; has_failed = was }) (record { held = new; has_failed = is }) piece
cut_piece {old} {new} {was} {is} {piece} front fault unmoved = record { front = front; failed = fault refl; unmoved = unmoved }

-- what holds of a sink that failed holds of the fault that is told
pub cut_told : (old new : SinkState) (bytes : List ℕ) (told : Result (Unit {0}) Failed) → IsErr told → IsCutShort old new bytes
    → Writes old new bytes told
cut_told old new bytes (Ok done) is cut = absurd (cc is)
cut_told old new bytes (Err failed) is cut = cut

-- the sink took the one piece and then the other
pub whole_both : {a b c : SinkState} {xs ys : List ℕ} → TakesWhole a b xs → TakesWhole b c ys → TakesWhole a c (xs ++ ys)
whole_both {a} {b} {c} {xs} {ys} first second = record {
  taken = TakesBytes-both a.held b.held c.held xs ys first.taken second.taken;
  was_sound = first.was_sound;
  is_sound = second.is_sound;
}

-- the sink fails at the second piece
pub cut_later : {a b c : SinkState} {xs ys : List ℕ} → TakesWhole a b xs → IsCutShort b c ys → IsCutShort a c (xs ++ ys)
cut_later {a} {b} {c} {xs} {ys} first second = record {
  front = takes_then_front a.held b.held c.held xs ys first.taken second.front;
  failed = second.failed;
  unmoved = λ failed. absurd (let e = first.was_sound in cc);
}

-- the sink fails before the second piece
pub cut_before : {a b : SinkState} {xs : List ℕ} (ys : List ℕ) → IsCutShort a b xs → IsCutShort a b (xs ++ ys)
cut_before {a} {b} {xs} ys cut = record {
  front = record {
    front = cut.front.front;
    rest = cut.front.rest ++ ys;
    parts = ap (λ l. l ++ ys) cut.front.parts ∙ append_assoc cut.front.front cut.front.rest ys;
    taken = cut.front.taken;
  };
  failed = cut.failed;
  unmoved = cut.unmoved;
}

-- the same where the piece is told apart from the head that it is
pub cut_at_head : {a b : SinkState} {piece : List ℕ} (head rest : List ℕ) → piece ≡ head → IsCutShort a b piece
    → IsCutShort a b (head ++ rest)
cut_at_head {a} {b} {piece} head rest same cut = cut_before rest (subst (IsCutShort a b) same cut)

-- a front of what was gathered is taken
pub gathers_on : {a b c : SinkState} {gathered rest bytes : List ℕ} → Gathers a b gathered bytes → Gathers b c rest gathered
    → Gathers a c rest bytes
gathers_on {a} {b} {c} {gathered} {rest} {bytes} first second = record {
  front = first.front ++ second.front;
  parts = first.parts ∙ ap (λ l. first.front ++ l) second.parts ∙ sym (append_assoc first.front second.front rest);
  whole = whole_both first.whole second.whole;
}

-- the sink fails at what was gathered
pub gathers_cut : {a b c : SinkState} {gathered bytes : List ℕ} → Gathers a b gathered bytes → IsCutShort b c gathered
    → IsCutShort a c bytes
gathers_cut {a} {b} {c} {gathered} {bytes} first cut = subst (IsCutShort a c) (sym first.parts) (cut_later first.whole cut)

module _ {X : Type 0} (bytes_of_one : X → List ℕ) where
  -- the bytes of one element more
  pub one_more : (xs : List X) (i : ℕ) (x d : X) → i < length xs → x ≡ get_or xs i d
      → flat_map bytes_of_one (take (i + 1) xs) ≡ flat_map bytes_of_one (take i xs) ++ bytes_of_one x
  one_more xs i x d within here =
      ap (flat_map bytes_of_one) (take_more xs i d within ∙ ap (λ y. take i xs ++ y ∷ []) (sym here))
      ∙ flat_map-append bytes_of_one (take i xs) (x ∷ [])
      ∙ ap (λ l. flat_map bytes_of_one (take i xs) ++ l) (append-nil (bytes_of_one x))

  -- the elements so far are written, and the sink fails at one more
  pub cut_next : {a b c : SinkState} {piece : List ℕ} (head : List ℕ) (xs : List X) (i : ℕ) (x d : X) → i < length xs
      → x ≡ get_or xs i d → piece ≡ bytes_of_one x → TakesWhole a b (head ++ flat_map bytes_of_one (take i xs))
      → IsCutShort b c piece → IsCutShort a c (head ++ flat_map bytes_of_one xs)
  cut_next {a} {b} {c} {piece} head xs i x d within here same so_far cut =
      let front : List ℕ = flat_map bytes_of_one (take i xs) in
      let later : List X = drop (i + 1) xs in
      let whole : front ++ (bytes_of_one x ++ flat_map bytes_of_one later) ≡ flat_map bytes_of_one xs =
      sym (append_assoc front (bytes_of_one x) (flat_map bytes_of_one later))
      ∙ ap (λ l. l ++ flat_map bytes_of_one later) (sym (one_more xs i x d within here))
      ∙ sym (flat_map-append bytes_of_one (take (i + 1) xs) later) ∙ ap (flat_map bytes_of_one) (take-append-drop (i + 1) xs) in
      subst (IsCutShort a c)
      (append_assoc head front (bytes_of_one x ++ flat_map bytes_of_one later) ∙ ap (λ l. head ++ l) whole)
      (cut_later so_far (cut_before (flat_map bytes_of_one later) (subst (IsCutShort b c) same cut)))

  -- the bytes of one element more are gathered
  pub gathers_next : {a b : SinkState} {gathered more : List ℕ} (head : List ℕ) (xs : List X) (i : ℕ) (x d : X) → i < length xs
      → x ≡ get_or xs i d → more ≡ gathered ++ bytes_of_one x → Gathers a b gathered (head ++ flat_map bytes_of_one (take i xs))
      → Gathers a b more (head ++ flat_map bytes_of_one (take (i + 1) xs))
  gathers_next {a} {b} {gathered} {more} head xs i x d within here pushed so_far =
      let front : List ℕ = flat_map bytes_of_one (take i xs) in
      record {
        front = so_far.front;
        parts =
            ap (λ l. head ++ l) (one_more xs i x d within here) ∙ sym (append_assoc head front (bytes_of_one x))
            ∙ ap (λ l. l ++ bytes_of_one x) so_far.parts ∙ append_assoc so_far.front gathered (bytes_of_one x)
            ∙ ap (λ l. so_far.front ++ l) (sym pushed);
        whole = so_far.whole;
      }

  -- the sink fails before all the elements are gathered
  pub gathers_cut_next : {a b c : SinkState} {gathered : List ℕ} (head : List ℕ) (xs : List X) (i : ℕ)
      → Gathers a b gathered (head ++ flat_map bytes_of_one (take i xs)) → IsCutShort b c gathered
      → IsCutShort a c (head ++ flat_map bytes_of_one xs)
  gathers_cut_next {a} {b} {c} {gathered} head xs i so_far cut =
      let front : List ℕ = flat_map bytes_of_one (take i xs) in
      let later : List ℕ = flat_map bytes_of_one (drop i xs) in
      subst (IsCutShort a c)
      (append_assoc head front later
      ∙ ap (λ l. head ++ l) (sym (flat_map-append bytes_of_one (take i xs) (drop i xs)) ∙ ap (flat_map bytes_of_one) (take-append-drop i xs)))
      (cut_before later (gathers_cut so_far cut))

  -- all the elements are gathered, and what `write_all` says of what was gathered becomes of all
  pub gathers_end : {a b : SinkState} {held : Option (List ℕ)} {is : Bool} {gathered piece : List ℕ} (head : List ℕ) (xs : List X)
      (i : ℕ) (told : Result (Unit {0}) Failed) → length xs ≤ i → piece ≡ gathered
      → Gathers a b gathered (head ++ flat_map bytes_of_one (take i xs)) → TakesFront b.held held piece
      → OnOk told (TakesBytes b.held held piece) → (IsErr told ↔ IsTrue is) → (IsTrue b.has_failed → Stays b.held held)
      → Writes a (record { held = held; has_failed = is }) (head ++ flat_map bytes_of_one xs) told
  gathers_end {a} {b} {held} {is} {gathered} {piece} head xs i (Ok done) past same so_far front taken fault unmoved =
      let all : List ℕ = head ++ flat_map bytes_of_one xs in
      let c : SinkState = record { held = held; has_failed = is } in
      let parts : all ≡ so_far.front ++ gathered =
      ap (λ l. head ++ flat_map bytes_of_one l) (sym (take_all i xs past)) ∙ so_far.parts in
      let next : TakesWhole b c piece = whole_piece taken fault.1 (λ failed. absurd (let e = so_far.whole.is_sound in cc)) in
      subst (TakesWhole a c) (sym parts) (whole_both so_far.whole (subst (TakesWhole b c) same next))
  gathers_end {a} {b} {held} {is} {gathered} {piece} head xs i (Err failed) past same so_far front taken fault unmoved =
      let c : SinkState = record { held = held; has_failed = is } in
      gathers_cut_next head xs i so_far (subst (IsCutShort b c) same (cut_piece front fault.0 unmoved))

-- a row with this key and this cost, where each was read of the row with this number
pub row_read : (rows : List (List ℕ × ℕ)) (i : ℕ) (key other : List ℕ) (cost told : ℕ) → slice_get rows i ≡ Some (key, told)
    → slice_get rows i ≡ Some (other, cost) → slice_get rows i ≡ Some (key, cost)
row_read rows i key other cost told first second =
    let d : List ℕ × ℕ = (key, told) in
    let same = sym (get_or_from_slice_get rows i d d first) ∙ get_or_from_slice_get rows i (other, cost) d second in
    first ∙ ap (λ k. Some (key, k)) (ap (λ r. r.1) same)

-- what is written of a table, of this kind
abbrev pub content : GameRules → Listing → Kind → ℕ → List Move → Content
content g table claimed floor moves = record { head = written_head g table claimed floor; moves = moves; rows = table.rows }

-- in the third form stands what has a place of its own, and the floor behind it
abbrev third_fixed : GameRules → Listing → Kind → List ℕ
third_fixed g table claimed = magic Third ++ g.code ∷ g.cells ∷ table.rule ∷ bound_byte table.bound ∷ kind_byte claimed ∷ []

third_written : (g : GameRules) (table : Listing) (claimed : Kind) (floor : ℕ) → written_form table.bound claimed ≡ Third
    → third_fixed g table claimed ++ floor_bytes claimed floor ≡ head_bytes (written_head g table claimed floor)
third_written g table claimed floor third =
    let In : Form → Head = λ form. record {
      form = form;
      game = g.code;
      cells = g.cells;
      rule = table.rule;
      bound = table.bound;
      kind = claimed;
      floor = floor;
    } in
    ap (λ form. head_bytes (In form)) (sym third)

-- the sink fails before the floor
pub third_cut : {a b : SinkState} {piece : List ℕ} (g : GameRules) (table : Listing) (claimed : Kind) (floor : ℕ)
    → written_form table.bound claimed ≡ Third → piece ≡ third_fixed g table claimed → IsCutShort a b piece
    → IsCutShort a b (head_bytes (written_head g table claimed floor))
third_cut {a} {b} {piece} g table claimed floor third same cut =
    subst (IsCutShort a b) (third_written g table claimed floor third)
    (cut_at_head (third_fixed g table claimed) (floor_bytes claimed floor) same cut)

-- what becomes of the floor becomes of the whole
pub third_ends : {a b : SinkState} {piece : List ℕ} (c : SinkState) (g : GameRules) (table : Listing) (claimed : Kind) (floor : ℕ)
    → written_form table.bound claimed ≡ Third → piece ≡ third_fixed g table claimed → TakesWhole a b piece
    → (told : Result (Unit {0}) Failed) → Writes b c (floor_bytes claimed floor) told
    → Writes a c (head_bytes (written_head g table claimed floor)) told
third_ends {a} {b} {piece} c g table claimed floor third same whole (Ok done) last =
    subst (TakesWhole a c) (third_written g table claimed floor third) (whole_both (subst (TakesWhole a b) same whole) last)
third_ends {a} {b} {piece} c g table claimed floor third same whole (Err failed) last =
    subst (IsCutShort a c) (third_written g table claimed floor third) (cut_later (subst (TakesWhole a b) same whole) last)

-- what a verdict is written as with a table is what an answer of the two is
answer_written : (g : GameRules) (answered : Answer) (said : Verdict) (table : Listing) (c : Content) → answered.table ≡ Some table
    → answered.verdict ≡ said → IsWrittenWith g table said c → IsWrittenAs g answered c
answer_written g answered said table c has is written =
    subst (λ (backing : Option Listing). MatchOption backing ⊥ (λ t. IsWrittenWith g t answered.verdict c)) (sym has)
    (subst (λ v. IsWrittenWith g table v c) (sym is) written)

-- the content of an answer of moves, by the moves that are read of it
pub shortest_written : (g : GameRules) (answered : Answer) (moves told : List Move) (table : Listing) → answered.table ≡ Some table
    → answered.verdict ≡ verdict.Shortest moves → told ≡ moves → IsWrittenAs g answered (content g table kind.Shortest 0 told)
shortest_written g answered moves told table has is moves_are =
    answer_written g answered (verdict.Shortest moves) table (content g table kind.Shortest 0 told) has is
    (ap (content g table kind.Shortest 0) moves_are)

-- and of one of moves and a floor
pub won_written : (g : GameRules) (answered : Answer) (moves told : List Move) (floor : ℕ) (table : Listing)
    → answered.table ≡ Some table → answered.verdict ≡ verdict.Won moves floor → told ≡ moves
    → IsWrittenAs g answered (content g table kind.Between floor told)
won_written g answered moves told floor table has is moves_are =
    answer_written g answered (verdict.Won moves floor) table (content g table kind.Between floor told) has is
    (ap (content g table kind.Between floor) moves_are)

-- and of one that no list wins
pub cannot_win_written : (g : GameRules) (answered : Answer) (table : Listing) → answered.table ≡ Some table
    → answered.verdict ≡ verdict.CannotWin → IsWrittenAs g answered (content g table kind.CannotWin 0 [])
cannot_win_written g answered table has is =
    answer_written g answered verdict.CannotWin table (content g table kind.CannotWin 0 []) has is refl

-- where the sink failed, `Write` is told
pub answer_cut : (g : GameRules) (answered : Answer) (old new : SinkState) (c : Content) (told : Result (Unit {0}) CertFault)
    → IsErrAnd told (λ e. e ≡ Write) → IsWrittenAs g answered c → IsCutShort old new (bytes_of c) → WritesAnswer g answered old new told
answer_cut g answered old new c (Ok done) is written cut = absurd is
answer_cut g answered old new c (Err e) is written cut =
    let Ends : CertFault → Type 0 = λ fault. WritesAnswer g answered old new (Err fault) in
    subst Ends (sym is) (c, written, cut)
