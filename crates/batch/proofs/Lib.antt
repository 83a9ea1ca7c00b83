-- SPDX-License-Identifier: Apache-2.0
pub mod Places
pub mod Marks
pub mod Visits
pub mod Totals
pub mod Buckets
pub mod Samples
