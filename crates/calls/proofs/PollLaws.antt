-- A poll, as the code makes it: an indication built in the output behind the room for its frame's head, and framed there. One law for each of its two exits.
use Prim.Native.Nat.{ℕ, ◌+◌, ◌-◌, ◌≤◌}
use mathlib.Core.Path.{◌≡◌, refl, sym, ◌∙◌, ap, subst}
use mathlib.Core.Bool.{Bool, true, false, not}
use mathlib.Core.List.{List, [], ◌++◌}
use native.Mathlib.Omega.{arith}
use lib.ListN.{length, take, drop}
use lib.Dec.{T, eqb}
use Rattle.words.specs.Words.{is_empty, put}
use Rattle.ft12.specs.declared.record.Link.{Link}
use Rattle.ft12.specs.Record.{Line, line_of, link_of, in_range}
use Rattle.ft12.specs.Rules.{Moved, on_message}
use Rattle.ft12.proofs.RangeLaws.{empty_take}
use Rattle.ft12.proofs.PlaceLaws.{held_fits, outstanding_places}
use Rattle.ft12.proofs.EventLaws.{range_stays}
use Rattle.walks.proofs.Branches.{no_T, yes_T}
use Rattle.baos.specs.declared.datapoint.Datapoint.{Datapoint}
use Rattle.baos.specs.declared.item.Item.{Item}
use Rattle.baos.specs.Text.{TextLists}
use Rattle.baos.specs.Table.{Tables, tables_of, datapoints_only}
use Rattle.baos.specs.Message.{Served}
use Rattle.baos.specs.Indication.{indication}
use Rattle.baos.proofs.AnswerLaws.{indication_sized, sized_short}
use Rattle.calls.specs.Reply.{Reply, Accepted, reply_numbers}
use Rattle.calls.specs.Call.{Done, quiet, saying, on_poll, accepted}
use Rattle.calls.specs.Promise.{Leaves}
use Rattle.calls.proofs.OutputLaws.{put_front, framed_over, message_stands}

-- ---- whether something is outstanding
pub held_empty : (k : Link) → T (in_range k) → is_empty (line_of k).outstanding ≡ eqb k.held 0
unfolding line_of
held_empty k t = sym (empty_take k.held k.outstanding (omega (arith, held_fits k t, outstanding_places k t)))

-- ---- by whether something is outstanding
pub poll_free : (t : Tables) (l : Line) → is_empty l.outstanding ≡ true → on_poll t l ≡ saying [] (indication t) l
unfolding on_poll
poll_free t l e = simp e

pub poll_held : (t : Tables) (l : Line) → is_empty l.outstanding ≡ false → on_poll t l ≡ quiet t l
unfolding on_poll
poll_held t l e = simp e

-- ---- the two exits
module _ (ds : List Datapoint) (k : Link) (o : List ℕ) (t : T (in_range k)) (r : 262 ≤ length o) where
  abbrev v : Served
  v = indication (datapoints_only ds)

  abbrev l : Line
  l = line_of k

  -- what stands in the output for the link to frame, and what the link is handed
  abbrev o₁ : List ℕ
  o₁ = put o 5 v.says

  abbrev m : List ℕ
  m = take (5 + length v.says - 5) (drop (0 + 5) o₁)

  short : length v.says ≤ 254
  short = sized_short v.says (indication_sized (datapoints_only ds))

  handed : m ≡ v.says
  handed = message_stands o 5 (5 + length v.says - 5) v.says (omega arith) (omega (arith, short, r))

  pub poll_waits : T (not (eqb k.held 0)) → Leaves (accepted o (on_poll (datapoints_only ds) l)) (Accepted 0) (datapoints_only ds) k o
  poll_waits h =
      subst (λ (d : Done). Leaves (accepted o d) (Accepted 0) (datapoints_only ds) k o) (sym (poll_held (datapoints_only ds) l (held_empty k t ∙ no_T (eqb k.held 0) h)))
      (unfold accepted in record { reply = refl; tables = refl; link = range_stays k t; output = refl })

  -- all that is left of it, once it is framed
  abbrev Framed : Done → Type 0
  Framed d = Leaves (accepted o d) (Accepted (length (on_message m l).sent)) (datapoints_only v.after.datapoints) (link_of (on_message m l).line) (put o₁ 0 (on_message m l).sent)

  framed : is_empty l.outstanding ≡ true → Framed (saying [] v l)
  unfolding accepted saying
  framed e =
      let w : on_message m l ≡ on_message v.says l = ap (λ (x : List ℕ). on_message x l) handed in
      let q : put o₁ 0 (on_message v.says l).sent ≡ put o 0 (on_message v.says l).sent = framed_over o 0 5 v.says l refl e short (omega (arith, r)) in
      record {
        reply = ap (λ (x : Moved). reply_numbers (Accepted (length x.sent))) w;
        tables = unfold indication in refl;
        link = ap (λ (x : Moved). link_of x.line) w;
        output = ap (λ (x : Moved). put o₁ 0 x.sent) w ∙ q ∙ put_front o (on_message v.says l).sent;
      }

  pub poll_says : T (not (not (eqb k.held 0))) → Framed (on_poll (datapoints_only ds) l)
  poll_says h =
      let e : is_empty l.outstanding ≡ true = held_empty k t ∙ yes_T (eqb k.held 0) h in
      subst Framed (sym (poll_free (datapoints_only ds) l e)) (framed e)

-- the indication, for all tables
indication_full : (ds : List Datapoint) (is : List Item) (ps : List ℕ) (ts : TextLists) → indication (tables_of ds is ps ts) ≡ record { says = (indication (datapoints_only ds)).says; after = tables_of (indication (datapoints_only ds)).after.datapoints is ps ts }
unfolding indication
indication_full ds is ps ts = refl

-- ---- all tables: a poll reads and changes the datapoints alone
module _ (ds : List Datapoint) (is : List Item) (ps : List ℕ) (ts : TextLists) (l : Line) where
  abbrev full : Done
  full = on_poll (tables_of ds is ps ts) l

  abbrev only : Done
  only = on_poll (datapoints_only ds) l

  pub record PollFull : Type 0 where
    pub sent : full.sent ≡ only.sent
    pub line : full.line ≡ only.line
    pub tables : full.tables ≡ tables_of only.tables.datapoints is ps ts

  pub poll_full : PollFull
  poll_full = go (is_empty l.outstanding) refl
    where
      go : (u : Bool) → is_empty l.outstanding ≡ u → PollFull
      go true e =
          let v : Served = indication (datapoints_only ds) in
          let w : Served = record { says = v.says; after = tables_of v.after.datapoints is ps ts } in
          let a : full ≡ saying [] w l = poll_free (tables_of ds is ps ts) l e ∙ ap (λ (x : Served). saying [] x l) (indication_full ds is ps ts) in
          let b : only ≡ saying [] v l = poll_free (datapoints_only ds) l e in
          let said : (saying [] w l).sent ≡ (saying [] v l).sent = unfold saying in refl in
          let lined : (saying [] w l).line ≡ (saying [] v l).line = unfold saying in refl in
          let left : (saying [] w l).tables ≡ tables_of (saying [] v l).tables.datapoints is ps ts = unfold saying in refl in
          record {
            sent = ap (λ (d : Done). d.sent) a ∙ said ∙ ap (λ (d : Done). d.sent) (sym b);
            line = ap (λ (d : Done). d.line) a ∙ lined ∙ ap (λ (d : Done). d.line) (sym b);
            tables = ap (λ (d : Done). d.tables) a ∙ left ∙ ap (λ (d : Done). tables_of d.tables.datapoints is ps ts) (sym b);
          }
      go false e =
          let a = poll_held (tables_of ds is ps ts) l e in
          let b = poll_held (datapoints_only ds) l e in
          record {
            sent = ap (λ (d : Done). d.sent) a ∙ ap (λ (d : Done). d.sent) (sym b);
            line = ap (λ (d : Done). d.line) a ∙ ap (λ (d : Done). d.line) (sym b);
            tables = ap (λ (d : Done). d.tables) a ∙ ap (λ (d : Done). tables_of d.tables.datapoints is ps ts) (sym b);
          }

  -- what holds of the datapoints alone holds of all tables
  pub poll_leaves : (o : List ℕ) (r : Reply) (ds' : List Datapoint) (k' : Link) (o' : List ℕ) → Leaves (accepted o only) r (datapoints_only ds') k' o' → Leaves (accepted o full) r (tables_of ds' is ps ts) k' o'
  poll_leaves o r ds' k' o' p =
      unfold accepted in
      record {
        reply = p.reply ∙ ap (λ (s : List ℕ). reply_numbers (Accepted (length s))) (sym poll_full.sent);
        tables = ap (λ (x : Tables). tables_of x.datapoints is ps ts) p.tables ∙ sym poll_full.tables;
        link = p.link ∙ ap link_of (sym poll_full.line);
        output = p.output ∙ ap {B = List ℕ} (λ (s : List ℕ). s ++ drop (length s) o) (sym poll_full.sent);
      }
