use Rattle.std.proofs.Common.{ℕ, List, Option, length, option_map, sum_by, sym, ◌∙◌, ap, subst, arith}
use Rattle.std.specs.Vec.{with_items}
use Rattle.std.proofs.lemmas.List.{with_items_is}
use Rattle.ra_progress.specs.declared.shape.ItemShape.{ItemShape}
use Rattle.ra_progress.specs.declared.shape.PresenceShape.{PresenceShape}
use Rattle.ra_progress.specs.Contents.{ItemsFit, PresenceFits}
use Rattle.ra_progress.specs.Layout.{item_length, script_length}
use Rattle.ra_progress.specs.Saying.{said_items, said_presence}
use Rattle.ra_display.specs.LineRests.{optional_presence_seen}
use Rattle.ra_items.specs.Rests.{seen_by}
use Rattle.ra_items.proofs.KeptItems.{blocks_long}
use Rattle.ra_runtime.specs.Keeping.{AreBlocks, KeptSeen}
use Rattle.ra_runtime.proofs.KeptBlocks.{blocks_said, blocks_say}
use Rattle.ra_runtime.proofs.KeptRows.{blocks_noted, room_again}
use Rattle.ra_runtime.proofs.kept.Kept.note_blocks.Goals as goal

pub keep_runs-display-requires-clause-room : goal.keep_runs-display-requires-clause-room
keep_runs-display-requires-clause-room c =
    let items = ap (λ (k : KeptSeen). k.items) c.self.view_is ∙ c.requires.items in
    let room = room_again _ _ _ _ _ c.self.invariant.blocks in
    omega (arith, room, ap length c.deref_mut.ensures.value, ap (sum_by item_length) items)

pub keep_display-end-requires-clause-room : goal.keep_display-end-requires-clause-room
keep_display-end-requires-clause-room c =
    let items = ap (λ (k : KeptSeen). k.items) c.self.view_is ∙ c.requires.items in
    let presence = ap (λ (k : KeptSeen). k.presence) c.self.view_is ∙ c.requires.presence in
    let room = room_again _ _ _ _ _ c.self.invariant.blocks in
    let put = c.keep_runs-display.ensures.puts in
    let long = blocks_long _ _ c.keep_runs-display.ensures.fit in
    let same = with_items_is c.self.inside.bytes c.keep_runs-display.new.row
    (c.keep_runs-display.auto.row ∙ c.deref_mut.ensures.len) in
    let first = ap length c.deref_mut.ensures.value in
    let second = ap length c.deref_mut-2.ensures.value in
    let many = ap (sum_by item_length) items in
    omega (arith, room, first, many, ap script_length presence, put.next_is, put.long, long, second, ap length same)

pub invariant_of-self : goal.invariant_of-self
invariant_of-self c =
    let t = c.self.inside in
    let inv = c.self.invariant in
    let seen = seen_by c.args.runs.now c.args.rests.now in
    let shown = optional_presence_seen c.args.presence.now c.args.line_rests.now in
    let items = ap (λ (k : KeptSeen). k.items) c.self.view_is ∙ c.requires.items in
    let presence = ap (λ (k : KeptSeen). k.presence) c.self.view_is ∙ c.requires.presence in
    let one = c.keep_runs-display.new.row in
    let two = c.keep_display-end.new.row in
    let mid = with_items_is t.bytes one (c.keep_runs-display.auto.row ∙ c.deref_mut.ensures.len) in
    let last = with_items_is (with_items t.bytes one) two (c.keep_display-end.auto.row ∙ c.deref_mut-2.ensures.len) in
    let fit = subst (λ (ss : List ItemShape). ItemsFit ss seen) (sym items) c.keep_runs-display.ensures.fit in
    let fits = subst (λ (p : Option PresenceShape). PresenceFits p shown) (sym presence)
    (c.requires.shows c.keep_display-end.ensures.fits) in
    let behind = rw (c.deref_mut-2.ensures.value, mid) at c.keep_display-end.ensures.puts in
    let blocks = blocks_noted t inv _ one two _ _ seen shown c.deref_mut.ensures.value fit fits
    c.keep_runs-display.ensures.puts behind in
    record {
      blocks = subst (λ (bs : List ℕ). AreBlocks bs t.items.items t.presence
          (said_items bs t.items.items t.places.items) (option_map (λ p. said_presence bs p t.display) t.presence))
          (sym last) (blocks_said two t.items.items t.presence seen shown t.places.items t.display blocks inv.places
          inv.display);
      places = inv.places;
      display = inv.display;
    }

pub returns-clause-noted : goal.returns-clause-noted
returns-clause-noted c =
    let t = c.self.inside in
    let inv = c.self.invariant in
    let seen = seen_by c.args.runs.now c.args.rests.now in
    let shown = optional_presence_seen c.args.presence.now c.args.line_rests.now in
    let items = ap (λ (k : KeptSeen). k.items) c.self.view_is ∙ c.requires.items in
    let presence = ap (λ (k : KeptSeen). k.presence) c.self.view_is ∙ c.requires.presence in
    let one = c.keep_runs-display.new.row in
    let two = c.keep_display-end.new.row in
    let mid = with_items_is t.bytes one (c.keep_runs-display.auto.row ∙ c.deref_mut.ensures.len) in
    let last = with_items_is (with_items t.bytes one) two (c.keep_display-end.auto.row ∙ c.deref_mut-2.ensures.len) in
    let fit = subst (λ (ss : List ItemShape). ItemsFit ss seen) (sym items) c.keep_runs-display.ensures.fit in
    let fits = subst (λ (p : Option PresenceShape). PresenceFits p shown) (sym presence)
    (c.requires.shows c.keep_display-end.ensures.fits) in
    let behind = rw (c.deref_mut-2.ensures.value, mid) at c.keep_display-end.ensures.puts in
    let blocks = blocks_noted t inv _ one two _ _ seen shown c.deref_mut.ensures.value fit fits
    c.keep_runs-display.ensures.puts behind in
    let they = blocks_say two t.items.items t.presence seen shown t.display blocks inv.display in
    let said = ap (λ (bs : List ℕ). said_items bs t.items.items t.places.items) last
    ∙ ap (said_items two t.items.items) inv.places ∙ they.0 in
    let tells = ap (λ (bs : List ℕ). option_map (λ p. said_presence bs p t.display) t.presence) last ∙ they.1 in
    rw (← c.self.view_is) (λ i. record {
      digest = t.digest;
      items = t.items.items;
      presence = t.presence;
      opening = record
          { frames = t.count; cells = t.cells.items; priors = t.priors.items; items = said i; presence = tells i };
    })

pub returns-clause-fits : goal.returns-clause-fits
returns-clause-fits c = c.requires.shows c.keep_display-end.ensures.fits
