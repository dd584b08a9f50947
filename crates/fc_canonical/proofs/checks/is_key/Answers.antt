use Rattle.std.proofs.Common.{refl}
use Rattle.std.proofs.lemmas.Bool.{false≢true}
use Rattle.fc_canonical.specs.inner.Parts.{times_in}
use Rattle.fc_canonical.proofs.CheckLemmas.{refused}
use Rattle.fc_canonical.proofs.PartLemmas.{are_split, parts_of_key, key_told, key_refused}
use Rattle.fc_canonical.proofs.checks.is_key.Goals as goal
use Rattle.fc_canonical.proofs.checks.is_key.Goals.{then-not-are_counts-via-then-not-are_counts, then-not-are_counts-via-else-not-are_counts+then-not-are_cells}

pub returns-then-not-are_counts : goal.returns-then-not-are_counts
returns-then-not-are_counts c =
    let split = are_split c.args.bytes.now c.in-Some.front.now c.in-Some.columns.now c.split_at.result.0.now c.split_at.result.1.now
    c.in-Some.ensures.found.0 c.in-Some.ensures.found.1 c.in-Some.ensures.found.2 c.split_at.ensures.front c.split_at.ensures.back in
    let parts = parts_of_key c.args.cells c.args.bytes.now c.split_at.result.0.now c.split_at.result.1.now c.in-Some.columns.now split in
    record {
      value = elim c.then-not-are_counts.branch [
        | then-not-are_counts-via-then-not-are_counts w ↦ refused (λ k. (parts k).low) (λ low. false≢true (w.if-not-are_counts.ensures.value.1 low))
        | then-not-are_counts-via-else-not-are_counts+then-not-are_cells w ↦
            refused (λ k. (parts k).stand) (λ stand. false≢true (w.if-not-are_cells.ensures.value.1 stand))
      ];
    }

pub returns-then-insert_cells : goal.returns-then-insert_cells
returns-then-insert_cells c =
    let split = are_split c.args.bytes.now c.in-Some.front.now c.in-Some.columns.now c.split_at.result.0.now c.split_at.result.1.now
    c.in-Some.ensures.found.0 c.in-Some.ensures.found.1 c.in-Some.ensures.found.2 c.split_at.ensures.front c.split_at.ensures.back in
    record {
      value = key_told c.args.cells c.args.bytes.now c.split_at.result.0.now c.split_at.result.1.now c.in-Some.columns.now
          (times_in c.home-cards.result) (times_in c.insert_cells.new.self) c.are_columns.result split
          (c.if-not-are_cells.ensures.value.0 refl) c.home-cards.ensures.value (c.if-insert_cells.ensures.added refl)
          c.are_columns.ensures.value;
    }

pub returns-else-insert_cells : goal.returns-else-insert_cells
returns-else-insert_cells c =
    let split = are_split c.args.bytes.now c.in-Some.front.now c.in-Some.columns.now c.split_at.result.0.now c.split_at.result.1.now
    c.in-Some.ensures.found.0 c.in-Some.ensures.found.1 c.in-Some.ensures.found.2 c.split_at.ensures.front c.split_at.ensures.back in
    record {
      value = key_refused c.args.cells c.args.bytes.now c.split_at.result.0.now c.split_at.result.1.now c.in-Some.columns.now
          (times_in c.home-cards.result) c.insert_cells.result split c.home-cards.ensures.value c.if-insert_cells.false
          (c.if-insert_cells.ensures.refused refl);
    }
