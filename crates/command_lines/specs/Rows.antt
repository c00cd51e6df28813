-- Worked rows.
use Rattle.std.specs.Prelude.{◌≡◌, false, codes, refl}
use Rattle.command_lines.specs.Refusals.{line_of, status_of}
use Rattle.command_lines.specs.Rendered.{file_line, module_line}
use Rattle.command_lines.specs.declared.refusals.Refusal.TheVariants as refusals
use Rattle.disk_base.specs.declared.disk_errors.DiskCall.TheVariants as calls
use Rattle.res_base.specs.Builders.{coord_of, key_of}
use Rattle.res_base.specs.declared.key.Role.TheVariants.{Artifact}
use Rattle.res_base.specs.declared.reading.Reading.TheVariants as readings
use Rattle.resolution.specs.declared.settled.Node.{Node}

abbrev pub node : Node
node = record {
  coord = coord_of (codes "org.a") (codes "a") (codes "1.0");
  repo = 0;
  packaging = codes "jar";
  moved = false;
}

pub module_row : module_line (codes "default") node ≡ codes "org.a:a:1.0:default\n"
module_row = refl

pub file_row :
    file_line (codes "/cache/") (record {
      key = key_of 0 Artifact (codes "x/a/1/a-1.jar");
      name = codes "http/r1/x/a/1/a-1.jar";
      reading = readings.Stored 3;
    })
    ≡ codes "/cache/http/r1/x/a/1/a-1.jar\n"
file_row = refl

pub repository : line_of (refusals.Repository (codes "http://r1/x/a/1/a-1.pom"))
    ≡ codes "coursier: repository: http://r1/x/a/1/a-1.pom\n"
repository = refl

pub disk : line_of (refusals.Disk calls.SyncNames) ≡ codes "coursier: disk: sync-names\n"
disk = refl

pub not_cached : line_of (refusals.NotCached (codes "http://r1/x/a/1/a-1.jar"))
    ≡ codes "coursier: not cached: http://r1/x/a/1/a-1.jar\n"
not_cached = refl

pub many_files : line_of refusals.TooManyFiles ≡ codes "coursier: too many files\n"
many_files = refl

pub many_files_status : status_of refusals.TooManyFiles ≡ 8
many_files_status = refl
