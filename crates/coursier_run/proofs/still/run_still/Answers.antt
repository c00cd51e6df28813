use Rattle.std.proofs.Common.{◌<◌, length, arith}
use Rattle.coursier_run.specs.Justified.{IsWorldOf}
use Rattle.coursier_run.proofs.Concluding.{concluded_wider, concludes}
use Rattle.coursier_run.proofs.FirstLink.{all_first, drop-set_first, first_of, first_set, set_first_same, zip_first}
use Rattle.coursier_run.proofs.Promised.{answers_refusal, blames_disk, blames_link, blames_wider, has_status, lacks_file, needs_many, prints_verdict, refuses_words, stream_rose}
use Rattle.coursier_run.proofs.Reasons.{Stays}
use Rattle.coursier_run.proofs.Sampled.{asks_wider}
use Rattle.coursier_run.proofs.Wider.{justified_wider}
use Rattle.job_session.specs.Faithful.{TellsFaithful}
use Rattle.line_streams.proofs.Endings.{ends_wider}
use Rattle.link_base.proofs.Kept.{kept_refl}
use Rattle.link_base.specs.Links.{Rows}
use Rattle.coursier_run.proofs.still.run_still.Given.{Over}
use Rattle.coursier_run.proofs.still.run_still.Goals.{After-links-1}
use Rattle.coursier_run.proofs.still.run_still.Goals as goal

stays : (g : Over) (c : After-links-1 g) → Stays
stays g c =
    record {
      rounds = c.verdicts_stay.ensures.rounds;
      files = c.verdicts_stay.ensures.files;
      lawful = c.rounds_lawful.ensures;
      failed = c.stuck_broken.ensures.failed;
      needed = c.stuck_broken.ensures.needed;
      too_many = c.too_many_needed.ensures;
    }

pub returns-clause-ends : goal.returns-clause-ends
returns-clause-ends g c =
    let links = c.args.links.now.items in
    let some : 0 < length links = omega arith in
    let first = c.index_mut.result.now in
    let V : Rows → Type 0 = λ w. g.L.Link.agrees first w × TellsFaithful g.D.Disk.told w c.args.disk in
    let W : Rows → Type 0 = IsWorldOf g.L.Link.agrees g.D.Disk.told links c.args.disk in
    record {
      before = first;
      now = c.serve.new.link;
      was_first = first_of links first some c.index_mut.ensures.value;
      is_first = first_set links c.serve.new.link some;
      work = ends_wider _ _ _ _ _ _ _ _ (λ said. justified_wider V W (λ w is. (all_first (λ l. g.L.Link.agrees l w) links first some c.index_mut.ensures.value is.agree, is.faithful)) _ _ said _) (λ rose. rose) (λ rose. rose) c.serve.ensures.ends;
    }

pub returns-clause-statuses : goal.returns-clause-statuses
returns-clause-statuses g c =
    has_status (stays g c) _ _ _ _ _ _ _ _ (returns-clause-ends g c).work

pub returns-clause-printed : goal.returns-clause-printed
returns-clause-printed g c =
    prints_verdict (stays g c) _ _ _ _ _ _ _ _ (returns-clause-ends g c).work

pub returns-clause-refused : goal.returns-clause-refused
returns-clause-refused g c =
    refuses_words (stays g c) _ _ _ _ _ _ _ _ (returns-clause-ends g c).work

pub returns-clause-blamed : goal.returns-clause-blamed
returns-clause-blamed g c =
    let ends = returns-clause-ends g c in
    λ at.
    blames_wider _ _ _ _ _
    (λ job key failed. record { before = ends.before; now = ends.now; was_first = ends.was_first; is_first = ends.is_first; work = failed })
    (blames_link (stays g c) _ _ _ _ _ _ _ _ ends.work at)

pub returns-clause-disk_failed : goal.returns-clause-disk_failed
returns-clause-disk_failed g c =
    blames_disk (stays g c) _ _ _ _ _ _ _ _ (returns-clause-ends g c).work

pub returns-clause-stream_failed : goal.returns-clause-stream_failed
returns-clause-stream_failed g c =
    stream_rose (stays g c) _ _ _ _ _ _ _ _ (returns-clause-ends g c).work

pub returns-clause-lacking : goal.returns-clause-lacking
returns-clause-lacking g c =
    lacks_file (stays g c) _ _ _ _ _ _ _ _ (returns-clause-ends g c).work

pub returns-clause-many : goal.returns-clause-many
returns-clause-many g c =
    needs_many (stays g c) _ _ _ _ _ _ _ _ (returns-clause-ends g c).work

pub returns-clause-complete : goal.returns-clause-complete
returns-clause-complete g c =
    let ends = returns-clause-ends g c in
    concluded_wider _ _ _ _ _
    (λ calm.
    record {
      link = λ rose. calm.link (record { before = ends.before; now = ends.now; was_first = ends.was_first; is_first = ends.is_first; work = rose });
      disk = calm.disk;
      out = calm.out;
      err = calm.err;
    })
    (concludes (stays g c) _ _ _ _ _ _ _ _ ends.work)

pub returns-clause-refusal : goal.returns-clause-refusal
returns-clause-refusal g c =
    answers_refusal (stays g c) _ _ _ _ _ _ _ _ (returns-clause-ends g c).work

pub returns-clause-untouched : goal.returns-clause-untouched
returns-clause-untouched g c = λ kind place bad.
    let same = c.serve.ensures.untouched kind place bad in
    let some : 0 < length c.args.links.now.items = omega arith in
    (set_first_same _ c.index_mut.result.now _ some c.index_mut.ensures.value same.0, same.1, same.2)

pub returns-clause-few : goal.returns-clause-few
returns-clause-few g c = λ job read.
    let links = c.args.links.now.items in
    let some : 0 < length links = omega arith in
    let first = c.index_mut.result.now in
    let V : Rows → Type 0 = λ w. g.L.Link.agrees first w × TellsFaithful g.D.Disk.told w c.args.disk in
    let W : Rows → Type 0 = IsWorldOf g.L.Link.agrees g.D.Disk.told links c.args.disk in
    record {
      before = first;
      now = c.serve.new.link;
      was_first = first_of links first some c.index_mut.ensures.value;
      is_first = first_set links c.serve.new.link some;
      within = asks_wider V W job _ _ _ (λ w is. (all_first (λ l. g.L.Link.agrees l w) links first some c.index_mut.ensures.value is.agree, is.faithful)) (c.serve.ensures.few job read);
    }

pub returns-clause-own : goal.returns-clause-own
returns-clause-own g c = λ job read sample.
    let same = c.serve.ensures.own job read sample in
    let some : 0 < length c.args.links.now.items = omega arith in
    (set_first_same _ c.index_mut.result.now _ some c.index_mut.ensures.value same.0, same.1, same.2)

pub returns-clause-kept : goal.returns-clause-kept
returns-clause-kept g c =
    let some : 0 < length c.args.links.now.items = omega arith in
    zip_first _ (kept_refl g.L.Link.agrees g.L.Link.faults g.L.Link.asked g.L.Link.failed_urls) c.args.links.now.items
    c.index_mut.result.now _ some c.index_mut.ensures.value c.serve.ensures.kept

pub returns-clause-first_alone : goal.returns-clause-first_alone
returns-clause-first_alone g c = drop-set_first c.args.links.now.items _

pub returns-clause-faithful : goal.returns-clause-faithful
returns-clause-faithful g c = λ w is.
    let some : 0 < length c.args.links.now.items = omega arith in
    c.serve.ensures.faithful w
    (all_first (λ l. g.L.Link.agrees l w) c.args.links.now.items c.index_mut.result.now some c.index_mut.ensures.value is.agree)
