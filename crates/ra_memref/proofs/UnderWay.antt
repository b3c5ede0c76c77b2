-- A frame under way: the nodes below a number are taken, and those of them that changed are listed.
use Rattle.std.proofs.Common.{◌≡◌, ℕ, ◌+◌, ◌-◌, ◌<◌, ◌≤◌, ◌==◌, not, List, [], Bool, length, get_or, refl, ap, subst}
use Rattle.std.proofs.Common.{◌∙◌, arith}
use Rattle.std.proofs.lemmas.List.{get_or-set_other}
use base.Fml.{GName}
use Rattle.ra_indirect.specs.Pools.{node_at}
use Rattle.ra_memref.specs.Numbers.{NumbersSeen}
use Rattle.ra_memref.specs.declared.node_plan.NodePlan.{NodePlan}
use Rattle.ra_memref.specs.Plans.{IsNodePlan}
use Rattle.ra_memref.specs.Changes.{AreNoted, ChangesSeen, noted}
use Rattle.ra_memref.specs.Flags.{IsFirstSet, NoneSet}
use Rattle.ra_memref.specs.Due.{AreIdle}
use Rattle.ra_memref.specs.Marks.{reads_of}
use Rattle.ra_memref.specs.Pass.{after_node, reads_at, value_at, IsAgreed, IsAgreedAt, IsSizedFor, IsWithin, TakesFrame}
use Rattle.ra_memref.proofs.Passed.{TakesNode, takes_node}
use Rattle.ra_memref.proofs.PassLemmas.{node_within}
use Rattle.ra_memref.proofs.TakenLemmas.{IsTaken, taken_none, taken_by, agreed_node, taken_to, takes_frame, counted}
use Rattle.ra_memref.proofs.DueLemmas.{AreSettledTo, settled_next}
use Rattle.ra_memref.proofs.ChangeLemmas.{noted_none, noted_more}

-- what is seen of an image: its bytes, how often it was read, and who counts that
pub record Shown : Type 0 where
  pub bytes : List ℕ
  pub reads : ℕ
  pub counter : GName

-- since the frame began, the nodes below k are taken, and of the image only the reads are others
pub record IsUnderWay (p : NodePlan) (old now : NumbersSeen) (begun image : Shown) (k : ℕ) (changes : ChangesSeen)
    : Type 0 where
  pub plan : IsNodePlan p
  pub sized : IsSizedFor p.nodes.now old
  pub agreed : IsAgreed old begun.bytes
  pub taken : IsTaken p.nodes.now begun.bytes old now k (image.reads - begun.reads)
  pub risen : begun.reads ≤ image.reads
  pub bytes : image.bytes ≡ begun.bytes
  pub counter : image.counter ≡ begun.counter
  pub noted : AreNoted (length p.nodes.now) k old.values now.values changes.listed
  pub room : changes.room ≡ length p.nodes.now
  pub most : k ≤ length p.nodes.now

pub under_way : {p : NodePlan} {image : Shown} {old : NumbersSeen} {room : ℕ} → IsNodePlan p
    → IsSizedFor p.nodes.now old → IsAgreed old image.bytes → room ≡ length p.nodes.now
    → IsUnderWay p old old image image 0 (record { listed = []; room = room })
under_way {p} {image} {old} plan sized agreed room =
    let none : 0 ≡ image.reads - image.reads = omega arith in
    record {
      plan = plan;
      sized = sized;
      agreed = agreed;
      taken = subst (IsTaken p.nodes.now image.bytes old old 0) none (taken_none p.nodes.now image.bytes old sized);
      risen = omega arith;
      bytes = refl;
      counter = refl;
      noted = noted_none (length p.nodes.now) old.values;
      room = room;
      most = omega arith;
    }

module _ {p : NodePlan} {old now : NumbersSeen} {begun image : Shown} {k : ℕ} {changes : ChangesSeen}
    (done : IsUnderWay p old now begun image k changes) where
  noted_to : (to : ℕ) → k ≤ to → AreNoted (length p.nodes.now) to old.values now.values changes.listed
  noted_to to less = record {
    each = done.noted.each;
    nodes = done.noted.nodes;
    few = omega (arith, done.noted.few, less);
  }

  pub way_noted : AreNoted (length p.nodes.now) (length p.nodes.now) old.values now.values changes.listed
  way_noted = noted_to (length p.nodes.now) done.most

  -- nodes that are not due are taken by leaving them
  way_to : (due : List Bool) → AreIdle p.nodes.now due now p.slots.now → (to : ℕ) → k ≤ to
      → to ≤ length p.nodes.now → NoneSet due k to → IsUnderWay p old now begun image to changes
  way_to due idle to less most none = record {
    plan = done.plan;
    sized = done.sized;
    agreed = done.agreed;
    risen = done.risen;
    bytes = done.bytes;
    counter = done.counter;
    room = done.room;
    taken = taken_to p.nodes.now done.plan.pool p.slots.now done.plan.laid begun.bytes old done.sized done.agreed now
        (image.reads - begun.reads) due idle k to less most none done.taken;
    noted = noted_to to less;
    most = most;
  }

  module _ {due : List Bool} (idle : AreIdle p.nodes.now due now p.slots.now)
      (dues : length due ≡ length p.nodes.now) where
    pub way_first : {to : ℕ} → IsFirstSet due k to → IsUnderWay p old now begun image to changes
    way_first {to} first = way_to due idle to first.after (omega (arith, first.within, dues)) first.none_before

    pub way_end : NoneSet due k (length due) → IsUnderWay p old now begun image (length p.nodes.now) changes
    way_end none = way_to due idle (length p.nodes.now) done.most (omega arith)
        (λ n low high. none n low (omega (arith, high, dues)))

  module _ (here : k < length p.nodes.now) where
    pub within_way : IsWithin (node_at p.nodes.now k) now p.slots.now k
    within_way = node_within p.nodes.now done.plan.pool p.slots.now done.plan.laid k here now done.taken.sized _ refl

    pub agreed_way : IsAgreedAt (node_at p.nodes.now k) now image.bytes (get_or p.slots.now k 0)
    agreed_way = rw done.bytes (agreed_node p.nodes.now done.plan.pool p.slots.now done.plan.laid
        begun.bytes old done.sized
        k here now (image.reads - begun.reads) done.taken done.agreed)

    module _ {new : NumbersSeen} (e : new ≡ after_node (node_at p.nodes.now k) now image.bytes p.slots.now k) where
      takes_way : TakesNode (node_at p.nodes.now k) p.slots.now image.bytes k now new
      takes_way = takes_node (node_at p.nodes.now k) p.slots.now image.bytes k now new e

      pub settled_way : (due : List Bool) → AreSettledTo p.nodes.now due now p.slots.now k
          → AreSettledTo p.nodes.now due new p.slots.now (k + 1)
      settled_way due settled = settled_next p.nodes.now done.plan.pool p.slots.now done.plan.laid image.bytes k here
          now new done.taken.sized takes_way due settled

      -- the next node is taken, and listed where it changed
      pub way_on : {after : Shown} → after.bytes ≡ image.bytes → after.counter ≡ image.counter
          → after.reads ≡ image.reads + reads_at (node_at p.nodes.now k) now (get_or p.slots.now k 0)
          → {changed : Bool} → changed ≡ not (value_at now k == value_at new k)
          → IsUnderWay p old new begun after (k + 1) (record changes { listed = noted changes.listed k changed })
      way_on {after} bytes counter reads {changed} told = record {
        plan = done.plan;
        sized = done.sized;
        agreed = done.agreed;
        taken = taken_by p.nodes.now done.plan.pool p.slots.now done.plan.laid begun.bytes old done.sized k here now
            (image.reads - begun.reads) done.taken image.bytes done.bytes new e begun.reads image.reads after.reads
            done.risen refl reads;
        risen = omega (arith, reads, done.risen);
        bytes = bytes ∙ done.bytes;
        counter = counter ∙ done.counter;
        noted = noted_more (length p.nodes.now) k old.values now.values new.values changes.listed k done.noted
            (omega arith) here (λ i apart. ap (λ xs. get_or xs i 0) takes_way.values
            ∙ get_or-set_other now.values k i _ 0 apart) changed told;
        room = done.room;
        most = omega (arith, here);
      }

  module _ (end : length p.nodes.now ≤ k) where
    taken_all : IsTaken p.nodes.now begun.bytes old now (length p.nodes.now) (image.reads - begun.reads)
    taken_all =
        let all : k ≡ length p.nodes.now = omega (arith, end, done.most) in
        subst (λ n. IsTaken p.nodes.now begun.bytes old now n (image.reads - begun.reads)) all done.taken

    -- once all nodes are taken, the frame is
    pub way_taken : TakesFrame p.nodes.now old now begun.bytes
    way_taken = takes_frame p.nodes.now done.plan.pool p.slots.now done.plan.laid begun.bytes old done.sized now
        (image.reads - begun.reads) taken_all

    pub way_counted : image.reads ≡ begun.reads + reads_of old.watches.marked old.watches.places now.watches.places
    way_counted = omega (
      arith,
      counted p.nodes.now done.plan.pool p.slots.now done.plan.laid
          begun.bytes old done.sized now
          (image.reads - begun.reads) taken_all,
      done.risen,
    )
