pub mod StepName
