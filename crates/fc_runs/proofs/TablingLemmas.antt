-- Tables of deals: rows and one row more.
use Rattle.std.proofs.Common.{◌≡◌, ◌∙◌, ℕ, zero, suc, ◌+◌, ◌<◌, List, [], ◌∷◌, ◌++◌, length, map, Option, None, refl, sym, ap, subst, arith, IsTrue, inl, inr}
use Rattle.std.specs.Prelude.{Some, max, slice_get}
use Rattle.std.proofs.lemmas.List.{append-nil, flat_map_more, length-append, map_push}
use Rattle.fc_io.specs.Moves.{TakesBytes, TakesFront}
use Rattle.fc_io.proofs.MoveLemmas.{TakesBytes-both, takes_then_front}
use Rattle.fc_deal.specs.Deal.{dealt_board}
use Rattle.fc_methods.specs.Method.{QuestionData}
use Rattle.fc_board_runs.specs.Devices.{Device}
use Rattle.fc_runs.specs.declared.answer_rows.Row.{Row}
use Rattle.fc_runs.specs.Batches.{greatest_status}
use Rattle.fc_answer_text.specs.AnswerText.{told_status}
use Rattle.fc_runs.specs.Rows.{IsRowOf}
use Rattle.fc_runs.specs.Tabling.{AreRows, DealRow, HearsRows, IsTableCutShort, line_of, names_text, row_text, table_text}
use Rattle.fc_runs.proofs.BatchLemmas.{greatest_more}

-- a row after others
last_row : (rows : List DealRow) (row : DealRow) (P : ℕ → DealRow → Type 0) → ((i : ℕ) (x : DealRow) → slice_get rows i ≡ Some x → P i x)
    → P (length rows) row → (i : ℕ) (x : DealRow) → slice_get (rows ++ row ∷ []) i ≡ Some x → P i x
last_row [] row P all last zero x at = subst (P 0) (cc at) last
last_row [] row P all last (suc i) x at = absurd (cc at)
last_row (y ∷ rows) row P all last zero x at = all 0 x at
last_row (y ∷ rows) row P all last (suc i) x at =
    last_row rows row (λ j z. P (suc j) z) (λ j z there. all (suc j) z there) last i x at

-- the row of a deal
deal_row : ℕ → Row → DealRow
deal_row deal row = record { deal = deal; row = row }

-- one more row that is right
one_more_row : (q : QuestionData) (from count : ℕ) (rows : List DealRow) (row : Row) → AreRows q from rows
    → length rows ≡ count → IsRowOf q (dealt_board (from + count)) None row
    → AreRows q from (rows ++ deal_row (from + count) row ∷ [])
unfolding deal_row
one_more_row q from count rows row right whole told = record {
  rising = last_row rows (deal_row (from + count) row) (λ i x. x.deal ≡ from + i) right.rising (ap (λ n. from + n) (sym whole));
  right = last_row rows (deal_row (from + count) row) (λ i x. IsRowOf q (dealt_board x.deal) None x.row) right.right told;
}

-- after some rows that were heard of one more is
pub hears_more : {L : Type 0} (hears : L → Row → L → Type 0) (old mid new : L) (rows : List DealRow) (row : DealRow)
    → HearsRows hears old mid rows → hears mid row.row new → HearsRows hears old new (rows ++ row ∷ [])
hears_more hears old mid new [] row same one = (new, subst (λ m. hears m row.row new) same one, refl)
hears_more hears old mid new (told ∷ later) row (next, first, rest) one =
    (next, first, hears_more hears next mid new later row rest one)

-- the names and so many rows were written, these were heard of, and this is the greatest of their statuses
pub record RowsAreWritten (q : QuestionData) (from count : ℕ) (old new : Option (List ℕ)) (hears : List DealRow → Type 0) (status : ℕ) : Type 0 where
  pub rows : List DealRow
  pub right : AreRows q from rows
  pub whole : length rows ≡ count
  pub written : TakesBytes old new (table_text rows)
  pub greatest : status ≡ greatest_status (map line_of rows)
  pub heard : hears rows

-- the names alone, and no row
pub none_written : (q : QuestionData) (from : ℕ) (old new : Option (List ℕ)) (hears : List DealRow → Type 0) (bytes : List ℕ)
    → bytes ≡ names_text → TakesBytes old new bytes → hears [] → RowsAreWritten q from 0 old new hears 0
none_written q from old new hears bytes same taken none = record {
  rows = [];
  right = record { rising = λ i row at. absurd (cc at); right = λ i row at. absurd (cc at) };
  whole = refl;
  written = subst (TakesBytes old new) (same ∙ sym (append-nil names_text)) taken;
  greatest = refl;
  heard = none;
}

-- and where these were cut short
pub names_cut_short : (q : QuestionData) (from most : ℕ) (sink : Device) (hears : List DealRow → Type 0) (bytes : List ℕ)
    → bytes ≡ names_text → TakesFront sink.old sink.new bytes → IsTrue sink.failed → hears []
    → IsTableCutShort q from most sink hears
names_cut_short q from most sink hears bytes same front failed none = record {
  rows = [];
  right = record { rising = λ i row at. absurd (cc at); right = λ i row at. absurd (cc at) };
  some = omega arith;
  front = subst (TakesFront sink.old sink.new) (same ∙ sym (append-nil names_text)) front;
  failed = failed;
  heard = inl (refl, none);
}

-- the text of one row more
text_more : (rows : List DealRow) (row : DealRow) → table_text rows ++ row_text row ≡ table_text (rows ++ row ∷ [])
text_more rows row = flat_map_more row_text names_text rows row

-- and one row more, which is heard of
pub one_more_written : {L : Type 0} (hears : L → Row → L → Type 0) (was is hearer : L) (q : QuestionData) (from count : ℕ)
    (old mid new : Option (List ℕ)) (status next : ℕ) (row : Row)
    → RowsAreWritten q from count old mid (HearsRows hears was is) status → IsRowOf q (dealt_board (from + count)) None row
    → TakesBytes mid new (row_text (record { deal = from + count; row = row })) → hears is row hearer
    → next ≡ max status (told_status row.told) → RowsAreWritten q from (count + 1) old new (HearsRows hears was hearer) next
unfolding deal_row
one_more_written hears was is hearer q from count old mid new status next row so_far told taken one greater =
    let whole = so_far.whole in
    let last = deal_row (from + count) row in
    record {
      rows = so_far.rows ++ last ∷ [];
      right = one_more_row q from count so_far.rows row so_far.right whole told;
      whole = omega (arith, whole, length-append so_far.rows (last ∷ []));
      written = subst (TakesBytes old new) (text_more so_far.rows last)
          (TakesBytes-both old mid new (table_text so_far.rows) (row_text last) so_far.written taken);
      greatest = greater ∙ ap (λ s. max s (told_status row.told)) so_far.greatest
          ∙ sym (ap greatest_status (map_push line_of so_far.rows last) ∙ greatest_more (map line_of so_far.rows) (line_of last));
      heard = hears_more hears was is hearer so_far.rows last so_far.heard one;
    }

-- and one that was cut short, which is not heard of
pub row_cut_short : (q : QuestionData) (from count most : ℕ) (mid : Option (List ℕ)) (sink : Device) (hears : List DealRow → Type 0)
    (status : ℕ) (row : Row) → RowsAreWritten q from count sink.old mid hears status
    → IsRowOf q (dealt_board (from + count)) None row → TakesFront mid sink.new (row_text (record { deal = from + count; row = row }))
    → count < most → IsTrue sink.failed → IsTableCutShort q from most sink hears
unfolding deal_row
row_cut_short q from count most mid sink hears status row so_far told front within failed =
    let whole = so_far.whole in
    let last = deal_row (from + count) row in
    record {
      rows = so_far.rows ++ last ∷ [];
      right = one_more_row q from count so_far.rows row so_far.right whole told;
      some = omega (arith, whole, within, length-append so_far.rows (last ∷ []));
      front = subst (TakesFront sink.old sink.new) (text_more so_far.rows last)
          (takes_then_front sink.old mid sink.new (table_text so_far.rows) (row_text last) so_far.written front);
      failed = failed;
      heard = inr record {
        before = so_far.rows;
        last = last;
        parts = refl;
        mid = mid;
        written = so_far.written;
        front = front;
        heard = so_far.heard;
      };
    }
