use Rattle.std.proofs.Common.{◌≡◌, ◌∙◌, ◌≤◌, false, ap, sym, subst, IfOk, Some, string_bytes, rules, arith}
use Rattle.serde_json.specs.Data.{depth, members_depth, object}
use Rattle.serde_json.specs.Read.{max_depth, read}
use Rattle.serde_json.specs.View.{view, members_view}
use Rattle.serde_json.specs.Written.{compact_text, has_float}
use Rattle.serde_json.specs.declared.value.Value.{Object}
use Rattle.serde_json.proofs.Views.{view-Object}
use Rattle.fc_json.specs.Objects.{list_members}
use Rattle.fc_json.proofs.JsonLemmas.{review_flat}
use Rattle.fc_json.proofs.reviews.review_object_text.Goals as goal

pub returns : goal.returns
returns c =
    let map = c.in_ok-members.members in
    let seen : view (Object map) ≡ object (list_members c.args.told.now) =
    view-Object map ∙ ap object c.in_ok-members.ensures.members in
    let flat : members_depth (members_view map.entries) ≤ 0 =
    subst (λ ms. members_depth ms ≤ 0) (sym c.in_ok-members.ensures.members) (review_flat c.args.told.now).0 in
    let whole : has_float (view (Object map)) ≡ false = subst (λ d. has_float d ≡ false) (sym seen) (review_flat c.args.told.now).1 in
    let shallow : depth (view (Object map)) ≤ max_depth = subst (λ d. depth d ≤ max_depth) (sym (view-Object map)) (omega (arith, flat)) in
    let reads : IfOk c.to_string.result (λ s. depth (view (Object map)) ≤ max_depth → read (string_bytes s) ≡ Some (view (Object map))) =
    c.to_string.ensures.reads_back in
    let text : IfOk c.to_string.result (λ s. has_float (view (Object map)) ≡ false → string_bytes s ≡ compact_text (view (Object map))) =
    c.to_string.ensures.text in
    record { text = search (rules, seen, whole, text); reads = search (rules, seen, shallow, reads) }
